-- The promise: Link, a script's links; Script, what reading a script finds; Answer, what each answer says.
-- No part of a promise: Steps, what inner functions ask and leave; Writer, the words of a script, for theorems alone.
pub mod Link
pub mod Answer
pub mod Script
pub mod Steps
pub mod Writer

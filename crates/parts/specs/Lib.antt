-- Reading one part of a template (docs/FORMAT.md, "Templates").
-- Promise: Placed, what was read and the next place; Reading, what reading a part finds. Machine: what only the
-- functions and the proofs use. Writer: the words of a part, and which parts are well-formed, for theorems alone.
pub mod Placed
pub mod Reading
pub mod Machine
pub mod Writer

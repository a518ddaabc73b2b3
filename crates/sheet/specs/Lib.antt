-- The promise: Sheet, what a template and a script are to the typings. Opened: what reading them leaves behind; no part
-- of a promise.
pub mod Sheet
pub mod Opened

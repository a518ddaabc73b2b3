-- The promise: Stored, what reading a stored list finds; Tidied, a stored list without its repeats. Steps: what tidying
-- asks; no part of a promise.
pub mod Stored
pub mod Tidied
pub mod Steps

-- Writes: what is written for an input. Unique: no choice is left.
pub mod Writes
pub mod Unique

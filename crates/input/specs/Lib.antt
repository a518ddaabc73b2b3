-- The promise: Input, what reading the printer's input finds. Machine: what inner functions do; no part of a promise.
pub mod Input
pub mod Machine
pub mod Writer

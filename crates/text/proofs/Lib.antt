-- Digits: a number in base ten. Lines: what a line is made of. Adding: a text and then another. Output: what is
-- written from the start on is an output.
pub mod Digits
pub mod Lines
pub mod Adding
pub mod Output

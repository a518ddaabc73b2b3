-- Grids: where a grid stands in an input, step by step. Lines: from what is said to the line that is written. Unique:
-- no choice is left. Numbers: which refusals there are. Refuted: wrong programs.
pub mod Grids
pub mod Lines
pub mod Unique
pub mod Numbers
pub mod Refuted

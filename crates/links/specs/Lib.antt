-- The promise: Counts, how many links of each kind a card has.
-- No part of a promise: Index, where a card's links stand; Runs, the links of one card, sorted by kind; Marks, which
-- cards links touch.
pub mod Counts
pub mod Index
pub mod Runs
pub mod Marks

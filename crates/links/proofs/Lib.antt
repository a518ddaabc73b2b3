-- Counts: how many links of a kind a card sees. Runs: the links of one card, sorted by kind. Leaving: the links from a
-- card are such. Arrivals: counting along the chain of the links to a card. Marks: the cards that links touch.
pub mod Counts
pub mod Runs
pub mod Leaving
pub mod Arrivals
pub mod Marks

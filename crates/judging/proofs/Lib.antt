-- Judging: whether a pair is met under a grid, and whether a booking is held.
pub mod Judging

-- Rows: the row of a card in a grid, and which cards are counted.
pub mod Rows

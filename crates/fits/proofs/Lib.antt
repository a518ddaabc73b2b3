-- The laws of a sheet's pairs, lowest first.
-- Rows: a shape's row of the table of names. Planning: where the core of a shape's part stands. CardTests: what the
-- tests of a card's links say. CardCounts: what is counted off a card's links. Twins: cards that share their bytes.
-- Cells: the bytes of all pairs, shape by shape. CountedOff: what testing leaves is what "Fit counts" answers.
pub mod Rows
pub mod Planning
pub mod CardTests
pub mod CardCounts
pub mod Twins
pub mod Cells
pub mod CountedOff

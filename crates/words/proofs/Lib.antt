-- Bools: truth values and comparisons. Cells: lists filled cell by cell, and parts put back. Places: the place of a
-- pair in a grid. Chains: numbers chained by a key. Writing: texts written into a buffer. Said: what is said tells
-- itself apart. Readings: what was accepted, and which refusals there are. Answered: the frame of a contract.
pub mod Bools
pub mod Cells
pub mod Places
pub mod Chains
pub mod Refused
pub mod Writing
pub mod Said
pub mod Readings
pub mod Answered

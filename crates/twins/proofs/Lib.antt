-- Twins: cards whose links have the same kinds.
pub mod Twins

-- Names: the chains of the table's entries. Needing, Striking: which pairs need one.
pub mod Names
pub mod Needing
pub mod Striking

-- Walks: along the links of a card. Entries: what a row of the table of names makes good. Cards: the card of a pair.
-- No part of a promise.
pub mod Walks
pub mod Entries
pub mod Cards

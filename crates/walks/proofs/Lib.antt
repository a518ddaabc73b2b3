-- Walks: along links. Starts: where the links of a card start. Entries, Needs: what entries and links make good.
-- Following: all that a pair needs. Cards: the card of a pair.
pub mod Walks
pub mod Starts
pub mod Entries
pub mod Needs
pub mod Following
pub mod Cards

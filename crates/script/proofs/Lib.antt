-- Order: of the links. Reading: what reading finds, step by step. Cards: the links of a card lie side by side.
-- Neighbours: what a card sees of the links. Linked: the cards that links touch. WithTemplate: a script read with a
-- template. Answers: no choice is left. RoundTrip: every script that is read was written.
pub mod Order
pub mod Reading
pub mod Cards
pub mod Neighbours
pub mod Linked
pub mod WithTemplate
pub mod Answers
pub mod RoundTrip

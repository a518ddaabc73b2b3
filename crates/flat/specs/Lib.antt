-- No part of a promise. Places: where the links of a flat part stand in a template's words. Meeting: its interval, met
-- along the links of a card.
pub mod Places
pub mod Meeting

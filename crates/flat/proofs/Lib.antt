-- The laws of flat parts, lowest first.
-- Appending: runs of parts, one after the other. Codes: what a step of a survey does at a code. Pending: what is left
-- of a part that is surveyed. MeetingCards: the interval of a flat part, met label by label. Along: going along the
-- links of a card to meet it.
pub mod Appending
pub mod Codes
pub mod Pending
pub mod MeetingCards
pub mod Along

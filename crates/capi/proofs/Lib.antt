-- Told: one law for all answers. Refusals: the numbers of refusals at one place. Copies: copying words to the start of
-- a buffer. Unique: no contract leaves a choice.
pub mod Told
pub mod Refusals
pub mod Copies
pub mod Unique

-- Rounds: what the rounds of strikes ask and find. No part of a promise.
pub mod Rounds

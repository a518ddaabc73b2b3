-- Rounds: where the loop of strikes stands.
pub mod Rounds

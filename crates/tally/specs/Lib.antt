-- Tally: what closing a round does. No part of a promise.
pub mod Tally

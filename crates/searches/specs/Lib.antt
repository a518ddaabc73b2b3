-- Searches: what the two searches ask. No part of a promise.
pub mod Searches

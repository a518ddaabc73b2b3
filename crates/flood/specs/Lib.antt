-- Follows: the search forwards. No part of a promise.
pub mod Follows

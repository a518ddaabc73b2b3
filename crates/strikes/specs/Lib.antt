-- Indexes: of the table of names. Strikes: what is struck by one pair. No part of a promise.
pub mod Indexes
pub mod Strikes

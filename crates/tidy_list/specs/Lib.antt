-- The promise: TidyList, what the list tidier writes for its input. Steps: what inner functions ask for and leave
-- behind; no part of a promise.
pub mod TidyList
pub mod Steps

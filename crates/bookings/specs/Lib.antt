-- The promise: Bookings, what reading a list finds. Steps: what inner functions ask and leave; no part of a promise.
pub mod Bookings
pub mod Steps

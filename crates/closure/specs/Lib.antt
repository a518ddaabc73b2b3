-- Closing: the closure of the bookings. No part of a promise.
pub mod Closing

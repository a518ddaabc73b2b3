-- Repeats: bookings that stand before. Reading: what reading a list finds, step by step. Accepted: the bookings of a
-- list that is read. Desks: the bookings of one desk.
pub mod Repeats
pub mod Reading
pub mod Accepted
pub mod Desks

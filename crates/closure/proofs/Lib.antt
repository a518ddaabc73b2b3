-- Marks: the bookings' pairs, marked. Closures: the closure of the bookings.
pub mod Marks
pub mod Closures

-- Readings: what reading what a call is lent finds. No part of a promise.
pub mod Readings

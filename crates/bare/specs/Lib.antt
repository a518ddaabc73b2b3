-- Rows: a grid with a row for each card. No part of a promise.
pub mod Rows

-- Openings: what the readings say of the sheet. Ways: whether its shapes name incoming kinds. Accepted: what a sheet
-- that is read has.
pub mod Openings
pub mod Ways
pub mod Accepted

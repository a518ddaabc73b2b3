-- Rooms: what is printed has room. Sheets: what is printed of a sheet. Unique: one text for a sheet and its bookings.
pub mod Rooms
pub mod Sheets
pub mod Unique

-- Printed: what is printed of a sheet, part of the promise. Steps: what printing it asks for and leaves; no part of it.
pub mod Printed
pub mod Steps

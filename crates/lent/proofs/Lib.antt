-- KnownSheet: what a sheet that is read has. Readings: what reading finds, by what its steps find.
pub mod KnownSheet
pub mod Readings

-- Printed: what the printer writes, the promise. Steps: what its steps ask for and leave behind.
pub mod Printed
pub mod Steps

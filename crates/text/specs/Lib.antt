-- The promise: Text, the lines of a sheet; Verdict, that of a verdict; Output, that an output is written. Steps: what
-- writing asks and leaves; no part of a promise.
pub mod Text
pub mod Verdict
pub mod Output
pub mod Steps

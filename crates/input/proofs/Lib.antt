-- Inputs: what reading the printer's input finds, step by step. Words: words that are decoded once, in
-- parts. RoundTrip: what is written is read, and what is read was written.
pub mod Inputs
pub mod Words
pub mod RoundTrip

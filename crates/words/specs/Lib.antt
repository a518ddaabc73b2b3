-- Said: what an operation says. Reading: what reading words finds. Answered: the frame of a contract. Writes: what an
-- operation that writes leaves. Refused: the number of each fault, and what a refusal says. Bytes: numbers as bytes.
-- Limits: of the format.
-- No part of a promise: Sizes, the room that the greatest sheet takes; Bounded, a number that is below a limit;
-- First, the first number with a fault; Chain, numbers chained by a key; Wrote, what writing into a buffer does.
pub mod Said
pub mod Reading
pub mod Refused
pub mod Answered
pub mod Writes
pub mod Bytes
pub mod Limits
pub mod Sizes
pub mod Bounded
pub mod First
pub mod Chain
pub mod Wrote

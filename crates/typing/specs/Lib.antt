-- The promise: Typing, Largest, Smallest, Demand3, what the typings are; Answer, Calls, Desks, Judge and Tidy,
-- what the calls answer; Orders, pairs struck one at a time.
-- Needs: the board of a sheet; no part of a promise.
pub mod Needs
pub mod Typing
pub mod Largest
pub mod Smallest
pub mod Demand3
pub mod Answer
pub mod Calls
pub mod Desks
pub mod Judge
pub mod Tidy
pub mod Orders

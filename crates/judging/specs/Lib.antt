-- Judging: a grid tested as it is; no part of a promise.
pub mod Judging

-- Judged: what judging a grid asks for. No part of a promise.
pub mod Judged

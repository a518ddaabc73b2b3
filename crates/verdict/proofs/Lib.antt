-- Verdicts: what testing a grid finds is its verdict.
pub mod Verdicts

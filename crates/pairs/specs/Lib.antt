-- Pairs: what testing the pairs of a sheet asks for and leaves. No part of a promise.
pub mod Pairs

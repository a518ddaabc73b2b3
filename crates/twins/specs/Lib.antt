-- No part of a promise: Twins, cards whose links have the same kinds.
pub mod Twins

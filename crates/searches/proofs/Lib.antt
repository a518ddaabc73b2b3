-- Striking, Settling: what the two searches leave is what they have to say.
pub mod Striking
pub mod Settling

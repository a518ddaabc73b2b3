-- The laws of the part at a place, lowest first.
-- Agreement: a reading that finds a part finds the one at its place. Places: the part at a place by its code. Sizes:
-- where its words end. Wrapping: the wrappers that it starts with.
pub mod Agreement
pub mod Places
pub mod Sizes
pub mod Wrapping

-- The part at a place of a template's words; no part of a promise.
-- Trees: the part, whatever the words are. Wrappers: the stars and the like that it starts with.
pub mod Trees
pub mod Wrappers

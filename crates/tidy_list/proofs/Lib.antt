-- Words: the bytes of words, one more at a time. Lists: from what the call says to the text. Apart: a list is told from
-- a refusal. Unique: no choice is left. Numbers: which refusals there are. Refuted: wrong programs.
pub mod Words
pub mod Lists
pub mod Apart
pub mod Unique
pub mod Numbers
pub mod Refuted

-- Parts of a choice or of an all, joined; no part of a promise.
-- Evaluation: what is found for a part, and for the first parts of a run. Machine: what the functions ask.
pub mod Evaluation
pub mod Machine

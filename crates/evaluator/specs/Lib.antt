-- The interval of a part, from the template's words; no part of a promise.
-- Machine: what the evaluator's functions ask and tell. Rows: a row of names, held against a part.
pub mod Machine
pub mod Rows

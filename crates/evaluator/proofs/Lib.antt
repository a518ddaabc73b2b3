-- The laws of the evaluator. Evaluations: what its leaves answer. Steps: its ways through a part. Testing: whether
-- counts fit, by a row of names and an interval.
pub mod Evaluations
pub mod Steps
pub mod Testing

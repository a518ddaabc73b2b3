-- The promise: JudgeInput, what reading the grid judge's input finds; JudgeLine, what it writes. Steps: what inner
-- functions ask for and leave behind; no part of a promise.
pub mod JudgeInput
pub mod JudgeLine
pub mod Steps

-- What the steps of judging an input ask for and leave behind; no part of a promise.
-- line_room       bytes that are enough for any line
-- FrontLent      the sections at the front of an input, and room for a line
-- LineWritten    the line of what is said of a reading was written to the front of a buffer
-- Assumes nothing.
use Rattle.std.specs.Prelude.{ℕ, ◌≤◌, List, length}
use Rattle.words.specs.Said.{Said}
use Rattle.words.specs.Reading.{Reading}
use Rattle.words.specs.Wrote.{Wrote}
use Rattle.input.specs.Machine.{FrontLaid}
use Rattle.input.specs.declared.Sections.{Sections}
use Rattle.text.specs.Verdict.{verdict_line}
use Rattle.judge_line.specs.JudgeInput.{max_judged, JudgeInput}
use Rattle.judge_line.specs.JudgeLine.{InputJudged}

-- Bytes that are enough for any line.
abbrev pub line_room : ℕ
line_room = 71

-- The sections at the front of an input, and room for a line.
pub record FrontLent (input : List ℕ) (sections : Sections) (out : List ℕ) : Type 0 where
  pub laid : FrontLaid max_judged input sections
  pub room : line_room ≤ length out

-- The line of what is said of a reading was written to the front of a buffer.
pub record LineWritten (reading : Reading JudgeInput) (before after : List ℕ) (next : ℕ) : Type 0 where
  pub said : Said
  pub says : InputJudged reading said
  pub wrote : Wrote before 0 (verdict_line said) after next

-- What the grid judge writes for its input, from bytes to bytes (docs/FORMAT.md, "The grid judge").
-- InputJudged   what is said of an input: its refusal, or what the operation says of what was read
-- Judges        the line for any input
-- Assumes nothing.
use Rattle.std.specs.Prelude.{ℕ, ◌≡◌, List}
use Rattle.words.specs.Said.{Said}
use Rattle.words.specs.Reading.{Reading}
use Rattle.words.specs.Answered.{Answered}
use Rattle.text.specs.Verdict.{verdict_line}
use Rattle.typing.specs.Judge.{JudgeSays}
use Rattle.judge_line.specs.JudgeInput.{JudgeInput, read_judge_input}

-- 60, or what "Judge a grid" says of the files, the desk and the grid.
abbrev pub InputJudged : Reading JudgeInput → Said → Type 0
InputJudged reading said =
    Answered reading (λ refused. said ≡ refused) (λ i.
    JudgeSays i.files.template i.files.script i.files.bookings i.desk i.grid said)

-- The text is the line of what is said of the input.
pub record Judges (input text : List ℕ) : Type 0 where
  pub said : Said
  pub says : InputJudged (read_judge_input input) said
  pub line : text ≡ verdict_line said

-- Which numbers the grid judge's line has.
--   judge-line-numbers   60 of the input, or one of the judge's
-- Assumes nothing.
use Prim.Native.Nat.{ℕ}
use mathlib.Core.Path.{◌≡◌, ◌∙◌, subst}
use mathlib.Core.Logic.{◌⊎◌, inl, inr}
use mathlib.Core.List.{List}
use Rattle.words.specs.Said.{refusal}
use Rattle.words.specs.Reading.{Reading, accepted, turned_down}
use Rattle.words.proofs.Said.{refusal-number}
use Rattle.words.proofs.Readings.{Numbered}
use Rattle.typing.proofs.Numbers.{JudgeRefusal, judge-numbers}
use Rattle.judge_line.specs.JudgeInput.{JudgeInput, read_judge_input}
use Rattle.judge_line.specs.JudgeLine.{InputJudged, Judges}
use Rattle.judge_line.proofs.Grids.{judge-input-numbers}

numbers-by : (r : Reading JudgeInput) → Numbered (λ n. n ≡ 60) r → (number : ℕ) (at : List ℕ)
    → InputJudged r (refusal number at) → (number ≡ 60) ⊎ JudgeRefusal number at
numbers-by (turned_down n p) h number at x = inl (refusal-number x ∙ h)
numbers-by (accepted i) h number at x =
    inr (judge-numbers i.files.template i.files.script i.files.bookings i.desk i.grid number at x)

pub judge-line-numbers : (input text : List ℕ) (x : Judges input text) (number : ℕ) (at : List ℕ)
    → x.said ≡ refusal number at → (number ≡ 60) ⊎ JudgeRefusal number at
judge-line-numbers input text x number at e =
    numbers-by (read_judge_input input) (judge-input-numbers input) number at
    (subst (InputJudged (read_judge_input input)) e x.says)

-- The grid judge has no choice: for one input there is one line, and of one buffer one is left.
--   judges-unique       one line for an input
--   judge-line-unique   one buffer and one number of bytes
-- Assumes nothing.
use Prim.Native.Nat.{ℕ}
use mathlib.Core.Path.{◌≡◌, sym, ap, ◌∙◌}
use mathlib.Core.List.{List}
use Rattle.words.proofs.Answered.{told-unique}
use Rattle.text.specs.Output.{Outputs}
use Rattle.text.specs.Verdict.{verdict_line}
use Rattle.text.proofs.Output.{outputs-unique}
use Rattle.typing.proofs.Judging.{judge-one-answer}
use Rattle.judge_line.specs.JudgeInput.{read_judge_input}
use Rattle.judge_line.specs.JudgeLine.{Judges}

pub judges-unique : (input a b : List ℕ) → Judges input a → Judges input b → a ≡ b
judges-unique input a b x y =
    let same = told-unique (read_judge_input input) x.said y.said (λ i r.
    judge-one-answer i.files.template i.files.script i.files.bookings i.desk i.grid x.said
    y.said) x.says y.says in
    x.line ∙ ap verdict_line same ∙ sym y.line

pub judge-line-unique : {input before after other : List ℕ} {next end : ℕ} → Outputs (Judges input) before after next
    → Outputs (Judges input) before other end → (after ≡ other) × (next ≡ end)
judge-line-unique {input} x y = outputs-unique (judges-unique input) x y

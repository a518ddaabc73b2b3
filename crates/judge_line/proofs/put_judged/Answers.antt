-- `judge_line::put_judged` writes the line of a grid that is accepted, or of a pair that is not met. Assumes nothing.
use mathlib.Core.Path.{◌∙◌, ap₂}
use mathlib.Core.List.{[], ◌∷◌}
use Prim.Native.Nat.{ℕ}
use native.Mathlib.Omega.{arith}
use Rattle.words.specs.Said.{refusal}
use Rattle.words.proofs.Writing.{wrote-same}
use Rattle.text.specs.Steps.{refused, accepted}
use Rattle.text.specs.Verdict.{verdict_line}
use Rattle.text.proofs.Lines.{line-bound, accepted-line, pair-line}
use Rattle.judge_line.proofs.put_judged.Goals as goal

pub put_line-requires : goal.put_line-requires
put_line-requires c = omega (arith, line-bound accepted [])

pub put_line-requires-in-Err : goal.put_line-requires-in-Err
put_line-requires-in-Err c = omega (arith, line-bound refused (62 ∷ c.from.result ∷ c.from-in-Err.result ∷ []))

pub returns-in-Ok : goal.returns-in-Ok
returns-in-Ok c = rw c.in-Ok.is (wrote-same accepted-line c.put_line.ensures)

pub returns-in-Err : goal.returns-in-Err
returns-in-Err c =
    rw c.in-Err.is
    (wrote-same (pair-line 62 c.from.result c.from-in-Err.result
    ∙ ap₂ (λ (n t : ℕ). verdict_line (refusal 62 (n ∷ t ∷ []))) c.from.ensures c.from-in-Err.ensures)
    c.put_line-in-Err.ensures)

-- `judge_line::put_verdict` writes the line of each answer. Assumes nothing.
use native.Mathlib.Omega.{arith}
use Rattle.words.specs.Refused.{number}
use Rattle.words.proofs.Writing.{wrote-same}
use Rattle.text.proofs.Lines.{verdict-refused, refused-bound}
use Rattle.judge_line.proofs.Lines.{verdict-wrote}
use Rattle.judge_line.proofs.put_verdict.Goals as goal

pub put_refusal-requires : goal.put_refusal-requires
put_refusal-requires c = omega (arith, refused-bound (number c.in-Err.refusal.0) c.in-Err.refusal.1)

pub returns-in-Err : goal.returns-in-Err
returns-in-Err c =
    verdict-wrote c.in-Err.is
    (wrote-same (verdict-refused (number c.in-Err.refusal.0) c.in-Err.refusal.1) c.put_refusal.ensures)

-- `judge_line::judge_line` writes 60 for an input whose front is at fault, else the line of what follows. Assumes
-- nothing.
use native.Mathlib.Omega.{arith}
use Rattle.text.proofs.Lines.{refused-bound}
use Rattle.judge_line.proofs.Lines.{faulty-judged, front-judged}
use Rattle.judge_line.proofs.judge_line.Goals as goal

pub put_refusal-requires : goal.put_refusal-requires
put_refusal-requires c = omega (arith, refused-bound 60 0)

pub returns-in-None-clause-writes : goal.returns-in-None-clause-writes
returns-in-None-clause-writes c = faulty-judged c.in-None.ensures.reads c.put_refusal.ensures

pub returns-in-Some-clause-writes : goal.returns-in-Some-clause-writes
returns-in-Some-clause-writes c = front-judged c.in-Some.ensures.reads c.judge_front.ensures

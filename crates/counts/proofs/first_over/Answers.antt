-- `first_over` meets its contract. Assumes nothing.
use native.Mathlib.Omega.{arith}
use Rattle.counts.proofs.Counts.{over-here, over-next, over-end}
use Rattle.counts.proofs.first_over.Goals as goal

pub returns-then-count-gt-MAX_COUNT : goal.returns-then-count-gt-MAX_COUNT
returns-then-count-gt-MAX_COUNT c =
    let e = over-here c.args.counts.now c.loop-i.i (omega arith) (omega arith) in
    (omega arith, omega arith)

pub loop-i-preserved : goal.loop-i-preserved
loop-i-preserved c =
    let e = over-next c.args.counts.now c.loop-i.i (omega arith) (omega arith) in
    omega arith

pub returns : goal.returns
returns c =
    let e = over-end c.args.counts.now c.loop-i.i (omega arith) in
    omega arith

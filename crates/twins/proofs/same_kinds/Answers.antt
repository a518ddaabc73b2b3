-- `twins::same_kinds` compares the kinds one by one: those before the place are the same. Assumes nothing.
use native.Mathlib.Omega.{arith}
use Rattle.twins.proofs.Twins.{same_more, same-done}
use Rattle.twins.proofs.same_kinds.Goals as goal

pub loop-at-preserved : goal.loop-at-preserved
loop-at-preserved c =
    (c.loop-at.invariant.0, same_more _ _ _ c.loop-at.invariant.1 c.if-a-at.false)

pub returns-else-a-b : goal.returns-else-a-b
returns-else-a-b c = λ yes. same-done _ _ _ c.loop-at.invariant.1 c.loop-at.invariant.0 (omega arith)

pub returns-else-a-at : goal.returns-else-a-at
returns-else-a-at c = λ yes.
    let last = same_more _ _ _ c.loop-at.invariant.1 c.if-a-at.false in
    same-done _ _ _ last c.loop-at.invariant.0 (omega arith)

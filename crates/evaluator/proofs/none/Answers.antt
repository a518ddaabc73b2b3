-- `none` meets its contract. Assumes nothing.
use Rattle.evaluator.proofs.Evaluations.{none-choice, none-all}
use Rattle.evaluator.proofs.none.Goals as goal

pub returns-then-code-ne16 : goal.returns-then-code-ne16
returns-then-code-ne16 c w at = none-all w at _ _ _ c.if-code-ne16.true (c.nothing.ensures w at)

pub returns : goal.returns
returns c w at = none-choice w at _ _ c.if-code-ne16.false

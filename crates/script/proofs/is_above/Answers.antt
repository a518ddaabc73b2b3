-- `script::is_above` compares a link with the one before it.
-- Assumes nothing.
use mathlib.Core.Path.{◌∙◌}
use native.Mathlib.Omega.{arith}
use Rattle.script.proofs.Order.{above-first, above_other}
use Rattle.script.proofs.is_above.Goals as goal

pub returns-then-i-eq0 : goal.returns-then-i-eq0
returns-then-i-eq0 c = above-first _ _ (omega arith)

pub returns : goal.returns
returns c = c.is_greater.ensures ∙ above_other _ _ (λ e. c.if-i-eq0.false e)

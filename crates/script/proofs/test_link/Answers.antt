-- `script::test_link` tests one link: a law of proofs/Reading for each answer.
-- Assumes nothing.
use mathlib.Core.Path.{sym, ◌∙◌}
use native.Mathlib.Omega.{arith}
use borrow.Author.Tests.{not-true, not-false}
use Rattle.script.specs.Link.{from_at, kind_at, to_at}
use Rattle.script.proofs.Reading.{link-from, link-kind, link-to, link-passes, link-order}
use Rattle.script.proofs.test_link.Goals as goal

pub returns-then-cards-script : goal.returns-then-cards-script
unfolding from_at
returns-then-cards-script c = λ n done. link-from _ _ _ n _ done (omega arith)

pub returns-then-kinds-script : goal.returns-then-kinds-script
unfolding from_at kind_at
returns-then-kinds-script c = λ n done. link-kind _ _ _ n _ done (omega arith) (omega arith)

pub returns-then-cards-script-2 : goal.returns-then-cards-script-2
unfolding from_at kind_at to_at
returns-then-cards-script-2 c = λ n done. link-to _ _ _ n _ done (omega arith) (omega arith) (omega arith)

pub returns-then-not-is_above : goal.returns-then-not-is_above
unfolding from_at kind_at to_at
returns-then-not-is_above c =
    λ n done.
    link-order _ _ _ n _ done (omega arith) (omega arith) (omega arith)
    (sym c.is_above.ensures ∙ not-true _ c.if-not-is_above.true-raw)

pub returns : goal.returns
unfolding from_at kind_at to_at
returns c =
    λ n done.
    link-passes _ _ _ n _ done (omega arith) (omega arith) (omega arith)
    (sym c.is_above.ensures ∙ not-false _ c.if-not-is_above.false-raw)

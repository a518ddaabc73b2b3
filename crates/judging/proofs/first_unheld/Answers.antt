-- `judging::first_unheld` finds the first booking of a desk that the grid does not hold. Assumes nothing.
use Rattle.std.proofs.Common.{rules}
use Rattle.std.proofs.lemmas.Iterator.{first_from_Range}
use mathlib.Core.Path.{subst}
use Prim.Native.Nat.{ℕ}
use Rattle.words.specs.First.{FirstFound}
use Rattle.judging.specs.Judging.{Missing}
use Rattle.judging.proofs.Judging.{first-found}
use Rattle.judging.proofs.first_unheld.Goals as goal

pub returns : goal.returns
returns c =
    let a = c.args in
    let Fault = Missing a.bookings.now a.desk a.shapes a.grid.now in
    subst (λ (end : ℕ). FirstFound Fault end c.find.result) c.from.ensures
    (first-found Fault c.from.result c.find.result
    (first_from_Range _ _ _ c.find.result Fault (λ i. Fault i → ⊥) c.find.ensures.ran
    (λ x q k. search rules) (λ x q k. search rules)))

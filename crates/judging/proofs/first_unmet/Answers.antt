-- `judging::first_unmet` finds the lowest pair of the grid that is not met. Assumes nothing.
use Rattle.std.proofs.Common.{rules}
use Rattle.std.proofs.lemmas.Iterator.{first_from_Range}
use lib.ListN.{length}
use Rattle.board.specs.Grid.{on}
use Rattle.judging.specs.Judging.{Failing}
use Rattle.judging.proofs.Judging.{first-found}
use Rattle.judging.proofs.first_unmet.Goals as goal

pub returns : goal.returns
unfolding on
returns c =
    let a = c.args in
    let walk = a.walk.now in
    let Fault = Failing walk.script.now walk.names.now walk.shapes a.fitting.now a.grid.now in
    first-found Fault (length a.grid.now) c.find.result
    (first_from_Range _ _ _ c.find.result Fault (λ p. Fault p → ⊥) c.find.ensures.ran
    (λ x q k. search rules) (λ x q k. search rules))

-- `nothing` meets its contract. Assumes nothing.
use Rattle.evaluator.proofs.Evaluations.{nothing-evaluates}
use Rattle.evaluator.proofs.nothing.Goals as goal

pub returns : goal.returns
returns c w at = nothing-evaluates w at _

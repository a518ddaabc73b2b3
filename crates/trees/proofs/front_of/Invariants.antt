-- `front_of` meets its contract. The invariant: wrappers stand before the loop's place, and their effect is
-- known. Assumes nothing.
use Rattle.trees.proofs.Wrapping.{FrontTo}
use Rattle.trees.proofs.front_of.Given as goal

abbrev pub invariant-loop-core : goal.invariant-loop-core
invariant-loop-core l = FrontTo l.words l.start l.end l.core l.lowers l.frees

-- `front_of` meets its contract. The invariant: wrappers stand before the loop's place, and their effect is
-- known. Assumes nothing.
use mathlib.Core.Path.{refl}
use native.Mathlib.Omega.{arith}
use Rattle.trees.proofs.Wrapping.{front-more}
use Rattle.trees.proofs.front_of.Goals as goal

pub loop-core-preserved : goal.loop-core-preserved
loop-core-preserved c =
    let inside = c.end_of-end.ensures.inside (omega (arith, c.loop-core.invariant.order)) in
    let (low, high) = c.is_wrapper.ensures.yes (grind arith) in
    front-more _ _ _ _ _ _ c.loop-core.invariant _ _ c.loop-core-test.true (omega arith) low high refl refl

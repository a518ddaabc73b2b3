-- `shape_place` meets its contract. The invariant: the way that is left leads to the shape's place, which is at most
-- 65,536 for each shape passed. Assumes nothing.
use native.Mathlib.Omega.{arith}
use Prim.Native.Nat.{◌+◌, ◌-◌}
use mathlib.Core.Path.{◌≡◌, refl, ◌∙◌}
use Rattle.counts.proofs.ShapePlaces.{place-done, place-next}
use Rattle.counts.proofs.shape_place.Goals as goal

pub loop-init : goal.loop-init
loop-init c =
    let all : c.args.shape - 0 ≡ c.args.shape = omega arith in
    record { leads = rw all refl; bound = omega arith }

pub loop-preserved : goal.loop-preserved
loop-preserved c =
    let one_less : c.args.shape - (c.loop.counter + 1) ≡ c.args.shape - c.loop.counter - 1 = omega arith in
    record {
      leads =
          rw one_less
          (place-next _ _ _ _ (omega arith) (c.from.ensures ∙ c.word.ensures) ∙ c.loop.invariant.leads);
      bound = omega arith;
    }

pub returns : goal.returns
returns c = place-done _ _ _ (omega arith) ∙ c.loop.invariant.leads

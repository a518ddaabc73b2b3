-- `twins::find_twins` meets its contract. The invariant: the cards before the loop's have their twins, and the table
-- of marks has no other card. Assumes nothing.
use mathlib.Core.Path.{refl}
use native.Mathlib.Omega.{arith}
use Rattle.twins.proofs.Twins.{twins-start, twins-more}
use Rattle.twins.proofs.find_twins.Goals as goal

pub loop-n-init : goal.loop-n-init
loop-n-init c = twins-start _ _ _ _ _ refl

pub loop-n-preserved : goal.loop-n-preserved
loop-n-preserved c =
    twins-more _ _ _ _ _ _ _ _ _ c.loop-n.invariant c.requires.room (omega arith) c.mark_of-mark.ensures
    c.twin_of.ensures

pub returns : goal.returns
returns c =
    let t = c.loop-n.invariant in
    record {
      each = λ links s. record {
        room = omega (arith, t.size, c.requires.room);
        each = λ n h. t.each links s n (omega arith);
      };
      size = t.size;
    }

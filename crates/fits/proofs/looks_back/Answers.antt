-- `fits::looks_back` meets its contract. Assumes nothing.
use mathlib.Core.Path.{sym, ◌∙◌}
use Prim.Native.Nat.{◌+◌, ◌-◌}
use borrow.Rule.Slice.PartMut.{mid_len}
use Rattle.words.specs.Limits.{max_kinds}
use native.Mathlib.Omega.{arith}
use Rattle.fits.proofs.Rows.{row-part}
use Rattle.fits.proofs.looks_back.Goals as goal

pub returns-then-e : goal.returns-then-e
returns-then-e c =
    record {
      yes = λ y. c.if-e.true;
      no = λ o k l.
          let full = mid_len max_kinds (max_kinds + c.from-stop.result) c.args.row.now
          (omega (arith, c.requires.full, c.requires.few)) in
          sym (row-part c.args.row.now max_kinds (max_kinds + c.from-stop.result - max_kinds) k (omega arith))
          ∙ c.some_named.ensures o k (omega (arith, full));
    }

-- `shape_place` meets its contract. The invariant: the way that is left leads to the shape's place, which is at most
-- 65,536 for each shape passed. Assumes nothing.
use Prim.Native.Nat.{ℕ, ◌+◌, ◌-◌, ◌*◌, ◌≤◌}
use mathlib.Core.Path.{◌≡◌}
use mathlib.Core.List.{List}
use Rattle.template.specs.Template.{shape_place}
use Rattle.counts.proofs.shape_place.Given as goal

-- So many shapes are left from a place on.
pub record WayTo (words : List ℕ) (shape at left : ℕ) : Type 0 where
  pub leads : shape_place words left at ≡ shape_place words shape 2
  pub bound : at + 65536 * left ≤ 2 + 65536 * shape

abbrev pub invariant-loop : goal.invariant-loop
invariant-loop l = WayTo l.words l.shape l.at (l.shape - l.counter)

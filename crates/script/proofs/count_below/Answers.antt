-- `script::count_below` finds its count by halving: the links before lo start below the card, those from hi on do not.
-- Assumes nothing.
use Prim.Native.Nat.{◌+◌, ◌-◌, ◌/◌}
use native.Mathlib.Nat.{lt_of_le_of_lt, le_trans}
use native.Mathlib.Omega.{arith}
use Rattle.script.specs.Link.{from_at}
use Rattle.script.proofs.Cards.{below-is}
use Rattle.script.proofs.Order.{starts-rise}
use Rattle.script.proofs.count_below.Goals as goal

pub loop-lo-init : goal.loop-lo-init
loop-lo-init c = (omega arith, omega arith, (λ k l. absurd (omega arith)), (λ k a b. absurd (omega arith)))

pub loop-lo-preserved-then-from-card : goal.loop-lo-preserved-then-from-card
unfolding from_at
loop-lo-preserved-then-from-card c = (
  omega arith,
  omega arith,
  λ k h.
      lt_of_le_of_lt
      (starts-rise _ _ c.requires k (c.loop-lo.lo + (c.loop-lo.hi - c.loop-lo.lo) / 2) (omega arith) (omega arith))
      (omega arith),
  c.loop-lo.invariant.3,
)

pub loop-lo-preserved : goal.loop-lo-preserved
unfolding from_at
loop-lo-preserved c = (
  omega arith,
  omega arith,
  c.loop-lo.invariant.2,
  λ k a b. le_trans (omega arith) (starts-rise _ _ c.requires (c.loop-lo.lo + (c.loop-lo.hi - c.loop-lo.lo) /
      2) k a b),
)

pub returns : goal.returns
returns c =
    below-is _ _ _ c.loop-lo.lo (omega arith) c.loop-lo.invariant.2 (λ k a b. c.loop-lo.invariant.3 k (omega arith) b)

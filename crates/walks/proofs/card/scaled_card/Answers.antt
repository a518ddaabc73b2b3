-- `walks::scaled_card` finds the card of a place by a reciprocal. Assumes nothing.
use Prim.Native.Nat.{◌+◌, ◌*◌, ◌≤◌}
use native.Mathlib.Nat.{mul-le-mul}
use native.Mathlib.Omega.{arith}
use Rattle.words.specs.Sizes.{max_grid}
use Rattle.walks.specs.Cards.{scale}
use Rattle.walks.proofs.Cards.{scaled-card}
use Rattle.walks.proofs.card.scaled_card.Goals as goal
use Rattle.walks.proofs.card.scaled_card.Goals.{Start}

-- both factors are small
small : (s : Start) → s.args.q * s.args.factor ≤ max_grid * (scale + 1)
small s = mul-le-mul {n₁ = s.args.q} {n₂ = max_grid} (omega (arith, s.requires.0)) s.requires.1

pub overflow_mul-result : goal.overflow_mul-result
overflow_mul-result c = omega (arith, small c)

pub returns : goal.returns
returns c shapes by = scaled-card by c.args.q c.requires.0

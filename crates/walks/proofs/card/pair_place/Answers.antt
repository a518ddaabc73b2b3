-- `walks::pair_place` adds up without overflow: cards are words, and shapes are few. Assumes nothing.
use native.Mathlib.Nat.{mul-le-mul}
use native.Mathlib.Omega.{arith}
use Prim.Native.Nat.{◌*◌, ◌≤◌}
use Rattle.words.specs.Limits.{max_shapes}
use Rattle.walks.proofs.card.pair_place.Goals as goal
use Rattle.walks.proofs.card.pair_place.Goals.{After-struct_known-1}

-- the card's first place is no great number
small : (c : After-struct_known-1) → c.args.card.0 * c.args.shapes ≤ 65536 * max_shapes
small c = mul-le-mul {n₁ = c.args.card.0} {n₂ = 65536} (omega arith) c.requires

pub overflow_mul-result : goal.overflow_mul-result
overflow_mul-result c = omega (arith, small c)

pub overflow_add-result : goal.overflow_add-result
overflow_add-result c = omega (arith, small (goal.at.overflow_add-result c).After-struct_known-1)

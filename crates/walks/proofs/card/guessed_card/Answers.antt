-- `walks::guessed_card` finds the card of a place, whatever is guessed. Assumes nothing.
use native.Mathlib.Nat.{mul-le-mul}
use native.Mathlib.Omega.{arith}
use Prim.Native.Nat.{◌*◌, ◌≤◌}
use borrow.Author.Tests.{ltb-true}
use Rattle.words.specs.Limits.{max_shapes}
use Rattle.walks.proofs.Cards.{guessed-card}
use Rattle.walks.proofs.card.guessed_card.Goals as goal
use Rattle.walks.proofs.card.guessed_card.Goals.{Start}

-- the guessed card's first place is no great number
small : (s : Start) → s.args.guess * s.args.shapes ≤ 65536 * max_shapes
small s = mul-le-mul {n₁ = s.args.guess} {n₂ = 65536} (omega (arith, s.requires.2)) s.requires.1

pub overflow_mul-base : goal.overflow_mul-base
overflow_mul-base c = omega (arith, small c)

pub overflow_add-base : goal.overflow_add-base
overflow_add-base c = omega (arith, small (goal.at.overflow_add-base c).Start, c.requires.1)

pub returns-then-q-base : goal.returns-then-q-base
returns-then-q-base c =
    guessed-card c.args.shapes c.args.q c.requires.0 c.args.guess c.if-base-q.true
    (ltb-true _ _ c.if-q-base.true-raw)

-- The card of a pair, from its place, with no division on the usual way; no part of a promise.
-- scale        what a reciprocal is scaled by
-- Reciprocal   a factor is the reciprocal of a number of shapes, scaled and rounded up
-- Assumes nothing.
use Rattle.std.specs.Prelude.{ℕ, ◌+◌, ◌*◌, ◌/◌, ◌≤◌, ◌<◌, ◌≡◌}
use Rattle.words.specs.Limits.{max_shapes}
use Rattle.words.specs.Sizes.{max_grid}

-- The places of the greatest grid times the most shapes: so great that rounding up takes no place for one of the next
-- card.
abbrev pub scale : ℕ
scale = max_shapes * max_grid

-- The factor is the scale over the shapes, rounded down, and one more.
pub record Reciprocal (shapes factor : ℕ) : Type 0 where
  pub one-shape : 0 < shapes
  pub few-shapes : shapes ≤ max_shapes
  pub scaled : factor ≡ scale / shapes + 1

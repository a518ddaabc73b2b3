-- Writing a part: its words, and which parts are well-formed (docs/FORMAT.md, "Templates"). Used only by theorems; no
-- part of a promise of a call.
-- write_part, write_run   the words of a part, and of a run of parts
-- WithinLimits          every link's low and high, and every group's count, are within the limits
-- PartFormed            what a shape's part must be
-- Assumes nothing.
use Rattle.std.specs.Prelude.{ℕ, suc, ◌+◌, ◌≤◌, List, [], ◌∷◌, ◌++◌}
use Rattle.words.specs.Limits.{max_depth, min_group, max_group, max_count, no_limit}
use Rattle.bags.specs.Part.{Limit, at_most, no-limit, Part, Parts, Single, ShapesBelow, KindsBelow, depth}

-- A link's high: a number, or the word for no limit.
abbrev pub write_limit : Limit → ℕ
write_limit (at_most high) = high
write_limit no-limit = no_limit

-- How many parts a run has.
abbrev pub run_length : Parts → ℕ
run_length Parts.none = 0
run_length (Parts.more p ps) = suc (run_length ps)

-- A part's code, and then what it takes: a part, a count and so many parts, or a link's shape, low and high.
abbrev mutual
  pub write_part : Part → List ℕ
  write_part Part.nothing = 0 ∷ []
  write_part (Part.star p) = 1 ∷ write_part p
  write_part (Part.plus p) = 2 ∷ write_part p
  write_part (Part.optional p) = 3 ∷ write_part p
  write_part (Part.choice ps) = 16 ∷ run_length ps ∷ write_run ps
  write_part (Part.all ps) = 17 ∷ run_length ps ∷ write_run ps
  write_part (Part.link label shape low high) = (256 + label) ∷ shape ∷ low ∷ write_limit high ∷ []

  pub write_run : Parts → List ℕ
  write_run Parts.none = []
  write_run (Parts.more p ps) = write_part p ++ write_run ps

-- A link's low is at most 8,192, and its high is from low to 8,192 or no limit.
abbrev pub LimitsIn : ℕ → Limit → Type 0
LimitsIn low (at_most high) = (low ≤ max_count) × (low ≤ high) × (high ≤ max_count)
LimitsIn low no-limit = low ≤ max_count

-- Every link has such a low and high, and every group has 2 to 16 parts.
abbrev mutual
  pub WithinLimits : Part → Type 0
  WithinLimits Part.nothing = Unit {0}
  WithinLimits (Part.star p) = WithinLimits p
  WithinLimits (Part.plus p) = WithinLimits p
  WithinLimits (Part.optional p) = WithinLimits p
  WithinLimits (Part.choice ps) = (min_group ≤ run_length ps) × (run_length ps ≤ max_group) × RunWithinLimits ps
  WithinLimits (Part.all ps) = (min_group ≤ run_length ps) × (run_length ps ≤ max_group) × RunWithinLimits ps
  WithinLimits (Part.link label shape low high) = LimitsIn low high

  pub RunWithinLimits : Parts → Type 0
  RunWithinLimits Parts.none = Unit {0}
  RunWithinLimits (Parts.more p ps) = WithinLimits p × RunWithinLimits ps

-- What the part of a shape must be, in a template of so many kinds and shapes.
pub record PartFormed (kinds shapes : ℕ) (p : Part) : Type 0 where
  -- no kind stands twice the same way
  pub once : Single p
  -- its kinds and shapes are the template's
  pub labels : KindsBelow kinds p
  pub targets : ShapesBelow shapes p
  -- it is not too deep, and its numbers are within the limits
  pub deep : depth p ≤ max_depth
  pub limits : WithinLimits p

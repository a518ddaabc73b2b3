-- Flat parts: nested alls of links and nothing; no part of a promise.
--   Flat    a part is flat
--   Has     a part has a link of a label, with its low and high
-- Assumes nothing.
use Rattle.std.specs.Prelude.{ℕ, ◌≡◌, ◌⊎◌}
use Rattle.bags.specs.Part.{Limit, Part, nothing, star, plus, optional, choice, all, link, Parts, none, more}

-- A part, and each part of a run, is a link, nothing, or all of such parts.
abbrev mutual
  pub Flat : Part → Type 0
  Flat nothing = Unit {0}
  Flat (star p) = ⊥
  Flat (plus p) = ⊥
  Flat (optional p) = ⊥
  Flat (choice ps) = ⊥
  Flat (all ps) = RunFlat ps
  Flat (link label shape low high) = Unit {0}

  pub RunFlat : Parts → Type 0
  RunFlat none = Unit {0}
  RunFlat (more p ps) = Flat p × RunFlat ps

-- A part, or a part of a run, has a link of the label k with this low and high.
abbrev mutual
  pub Has : Part → ℕ → ℕ → Limit → Type 0
  Has nothing k a b = ⊥
  Has (star p) k a b = Has p k a b
  Has (plus p) k a b = Has p k a b
  Has (optional p) k a b = Has p k a b
  Has (choice ps) k a b = RunHas ps k a b
  Has (all ps) k a b = RunHas ps k a b
  Has (link label shape low high) k a b = (k ≡ label) × (a ≡ low) × (b ≡ high)

  pub RunHas : Parts → ℕ → ℕ → Limit → Type 0
  RunHas none k a b = ⊥
  RunHas (more p ps) k a b = Has p k a b ⊎ RunHas ps k a b

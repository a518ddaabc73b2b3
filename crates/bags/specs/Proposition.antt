-- The two sides of Proposition 8.1, which comes to the same as Met (proofs: `met-exact`); no part of a promise.
-- label_count    the neighbours' counts
-- TargetsHave   each neighbour has the shape that the part declares for its label
-- Assumes nothing.
use Rattle.std.specs.Prelude.{ℕ, ◌+◌, List, [], ◌∷◌, eqb}
use Rattle.bags.specs.Part.{Part, Declares}
use Rattle.bags.specs.Bag.{when}
use Rattle.bags.specs.Choice.{Neighbour, to}

-- How many neighbours have the label k.
abbrev pub label_count : List Neighbour → ℕ → ℕ
label_count [] k = 0
label_count (to label far ∷ ns) k = when (eqb k label) 1 + label_count ns k

-- Each neighbour has the shape that the part declares for its label.
abbrev pub TargetsHave : (ℕ → ℕ → Type 0) → List Neighbour → Part → Type 0
TargetsHave has [] p = Unit {0}
TargetsHave has (to label far ∷ ns) p = ((s : ℕ) × Declares p label s × has far s) × TargetsHave has ns p

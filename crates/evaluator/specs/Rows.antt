-- A row of the table of names, held against a part; no part of a promise.
-- RowOf   a row has the names of a part, for so many labels
-- Assumes nothing.
use Rattle.std.specs.Prelude.{ℕ, ◌<◌, ◌≡◌, List, get_or}
use Rattle.bags.specs.Part.{Part}
use Rattle.bags.specs.Named.{named}

-- A row has the names of a part for the labels below a number.
abbrev pub RowOf : List ℕ → ℕ → Part → Type 0
RowOf row labels p = (k : ℕ) → k < labels → get_or row k 0 ≡ named p k

-- What a shape looks at on a card (docs/FORMAT.md, "Bags and counts").
--   looks_at    whether a shape, open or closed, with this part looks at a label
--   seen       of counts those that it looks at; looked_at: of neighbours those that it looks at
--   listed     a list of counts, one for each kind each way, as counts of labels
-- Assumes nothing.
use Rattle.std.specs.Prelude.{ℕ, ◌-◌, Bool, ◌&&◌, ◌||◌, not, cond, List, [], ◌∷◌, take, drop, ltb}
use Rattle.words.specs.Limits.{max_kinds}
use Rattle.bags.specs.Part.{Part, names}
use Rattle.bags.specs.Bag.{when, count}
use Rattle.bags.specs.Choice.{Neighbour, to}

-- At every label that its part names, and at every outgoing one if the shape is not open.
unfoldable pub looks_at : Bool → Part → ℕ → Bool
looks_at is_open p k = names p k || (ltb k max_kinds && not is_open)

-- The counts of the labels that a shape looks at, and 0 for the others.
abbrev pub seen : Bool → Part → (ℕ → ℕ) → ℕ → ℕ
seen is_open p counts k = when (looks_at is_open p k) (counts k)

-- Of a card's neighbours those whose label a shape looks at.
unfoldable pub looked_at : Bool → Part → List Neighbour → List Neighbour
looked_at is_open p [] = []
looked_at is_open p (to label far ∷ ns) =
    cond (looks_at is_open p label) (to label far ∷ looked_at is_open p ns) (looked_at is_open p ns)

-- A list with the counts of so many outgoing kinds and then of as many incoming ones, as counts of labels.
unfoldable pub listed : ℕ → List ℕ → ℕ → ℕ
listed kinds counts k =
    cond (ltb k max_kinds) (count (take kinds counts) k) (count (drop kinds counts) (k - max_kinds))

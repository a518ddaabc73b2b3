-- When a card's neighbours meet a part (docs/FORMAT.md, "Typings"; section 3.2 of the paper).
--   Neighbour                a label and the far card
--   Chosen                   a bag of (label, shape) for a choice of one shape of each far card
--   Met                      some such bag belongs to the part
-- Assumes nothing.
use Rattle.std.specs.Prelude.{ℕ, ◌<◌, ◌≡◌, List, [], ◌∷◌}
use Rattle.bags.specs.Part.{Part}
use Rattle.bags.specs.Bag.{Bag, ∅, ◌⊕◌, copies, Bags}

-- A neighbour of a card: the label under which it is seen, and its number.
pub data Neighbour : Type 0 where
  to : ℕ → ℕ → Neighbour

-- The bag is that of a choice of one shape for each neighbour, below S and one that it has.
abbrev pub Chosen : ℕ → (ℕ → ℕ → Type 0) → List Neighbour → Bag → Type 0
Chosen S has [] b = b ≡ ∅
Chosen S has (to label far ∷ ns) b =
    (s : ℕ) × (s < S) × has far s × ((c : Bag) × Chosen S has ns c × (b ≡ copies 1 label s ⊕ c))

-- The part takes the bag of some choice of one shape for each neighbour.
abbrev pub Met : ℕ → (ℕ → ℕ → Type 0) → List Neighbour → Part → Type 0
Met S has ns p = (b : Bag) × Chosen S has ns b × Bags p b

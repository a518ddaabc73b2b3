-- Typings (docs/FORMAT.md, "Typings"; section 3.2 of the paper).
-- Pairs, Has   a set of pairs as a test of places; it has the pair of a card and a shape
-- Met          a pair is met under a set of pairs
-- Sound        rule 2 of section 3.2: every pair of the set is met under it
-- Below        every pair of the first is one of the second; Holds: it has every booking
-- Typing       a grid of bytes is a typing; SoundTyping: and a sound one
-- Assumes nothing.
use Rattle.std.specs.Prelude.{ℕ, ◌<◌, ◌≡◌, ◌⊎◌, List, Bool, true, length, get_or}
use Rattle.bags.specs.Choice as choice
use Rattle.board.specs.Grid.{on}
use Rattle.sheet.specs.Sheet.{Sheet, part_of, neighbours_of, place, size}

-- A set of pairs: which places it has.
abbrev pub Pairs : Type 0
Pairs = ℕ → Bool

-- The set has the pair of card n and shape t.
abbrev pub Has : Sheet → Pairs → ℕ → ℕ → Type 0
Has s X n t = X (place s n t) ≡ true

-- For each of the card's neighbours a shape that the set gives it can be chosen, so that the bag of labels and shapes
-- chosen belongs to the shape's part.
abbrev pub Met : Sheet → Pairs → ℕ → ℕ → Type 0
Met s X n t = choice.Met s.shapes (Has s X) (neighbours_of s n t) (part_of s t)

-- Every pair that the set has is met under it.
abbrev pub Sound : Sheet → Pairs → Type 0
Sound s X = (n t : ℕ) → n < s.cards → t < s.shapes → Has s X n t → Met s X n t

-- Every pair that the first set has the second has too.
abbrev pub Below : Sheet → Pairs → Pairs → Type 0
Below s X Y = (n t : ℕ) → n < s.cards → t < s.shapes → Has s X n t → Has s Y n t

-- The set has the pair of each booking. `Booked n t`: some booking is of card n and shape t.
abbrev pub Holds : Sheet → (ℕ → ℕ → Type 0) → Pairs → Type 0
Holds s Booked X = (n t : ℕ) → Booked n t → Has s X n t

-- A grid is a typing: a byte for each pair, 1 where the card has the shape, else 0.
pub record Typing (s : Sheet) (grid : List ℕ) : Type 0 where
  pub full : length grid ≡ size s
  pub bytes : (p : ℕ) → p < size s → (get_or grid p 0 ≡ 0) ⊎ (get_or grid p 0 ≡ 1)

-- It is a sound one.
pub record SoundTyping (s : Sheet) (grid : List ℕ) : Type 0 where
  pub typing : Typing s grid
  pub sound : Sound s (on grid)

-- What holds of the two typings together (docs/FORMAT.md, "Largest" and "Smallest"), over the two grids and the numbers
-- that the calls leave.
-- Outcome, Refused   how the bookings fared: the number of pairs, or the card and shape of 50
-- Demand3            a field for each thing that is promised
-- Assumes nothing.
use Rattle.std.specs.Prelude.{ℕ, ◌+◌, ◌≤◌, ◌<◌, ◌≡◌, ◌↔◌, List, false}
use Rattle.board.specs.Grid.{on, tally}
use Rattle.sheet.specs.Sheet.{Sheet, place, size}
use Rattle.typing.specs.Typing.{Pairs, Below, Holds, SoundTyping}
use Rattle.typing.specs.Largest.{Largest, bare_cards}
use Rattle.typing.specs.Smallest.{IsClosure}

-- The number of pairs, or the card and the shape that 50 names.
pub data Outcome : Type 0 where
  pairs : ℕ → Outcome
  not_met : ℕ → ℕ → Outcome

-- The bookings are turned down.
abbrev pub Refused : Outcome → Type 0
Refused (pairs m) = ⊥
Refused (not_met n t) = Unit {0}

pub record Demand3 (s : Sheet) (Booked : ℕ → ℕ → Type 0) (large : List ℕ) (rounds struck bare : ℕ) (small : List ℕ)
    (outcome : Outcome) : Type 0 where
  -- 50 comes exactly where no sound typing has all bookings
  pub turned_down : Refused outcome ↔ ((h : List ℕ) → SoundTyping s h → Holds s Booked (on h) → ⊥)
  -- elsewhere both grids are sound typings that have the bookings,
  pub small-sound : (Refused outcome → ⊥) → SoundTyping s small × Holds s Booked (on small)
  pub large-sound : (Refused outcome → ⊥) → SoundTyping s large × Holds s Booked (on large)
  -- and each sound typing that has them lies between the two
  pub between : (Refused outcome → ⊥) → (h : List ℕ) → SoundTyping s h → Holds s Booked (on h)
      → Below s (on small) (on h) × Below s (on h) (on large)
  -- the largest leaves a card bare exactly where every sound typing does, whatever is booked
  pub shapeless : (n : ℕ) → n < s.cards
      → ((t : ℕ) → t < s.shapes → on large (place s n t) ≡ false)
      ↔ ((h : List ℕ) → SoundTyping s h → (t : ℕ) → t < s.shapes → on h (place s n t) ≡ false)
  -- rounds, strikes, cards with some link and no shape, and pairs are those that the definitions count: whatever
  -- numbers these count are the answer's, and they do count some
  pub numbers : (r m : ℕ) (X : Pairs) → Largest s r m X → (rounds ≡ r) × (struck ≡ m) × (bare ≡ bare_cards s X)
  pub counts_some : (r : ℕ) × (m : ℕ) × (X : Pairs) × Largest s r m X
  pub pairs-counted : (m : ℕ) (X : Pairs) → outcome ≡ pairs m → IsClosure s Booked X → m ≡ tally X (size s)
  -- there is at most one round more than there are strikes
  pub bound : rounds ≤ struck + 1

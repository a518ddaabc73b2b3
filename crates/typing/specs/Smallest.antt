-- The smallest typing that holds the bookings (docs/FORMAT.md, "Smallest").
-- Closure     the least set with the bookings and what follows from them
-- IsClosure   a set of pairs is the closure
-- Accepted    the answer where every pair of the closure is met; TurnedDown: 50
-- Assumes nothing.
use Rattle.std.specs.Prelude.{ℕ, ◌<◌, ◌≡◌, List, replicate}
use Rattle.bags.specs.Label.{Way}
use Rattle.bags.specs.Part.{Declares}
use Rattle.board.specs.Grid.{on, tally}
use Rattle.script.specs.Link.{near_at, label_at, far_at}
use Rattle.sheet.specs.Sheet.{Sheet, part_of, place, size}
use Rattle.typing.specs.Typing.{Pairs, Has, Met, Typing}

-- The bookings are in it. Where a pair of a card and a shape is in it, and the shape names the label of a link that the
-- card sees with some shape, the link's far end is in it with that shape: a link from the card and one to it alike.
-- Nothing else is.
pub data Closure (s : Sheet) (Booked : ℕ → ℕ → Type 0) : ℕ → ℕ → Type 0 where
  booked : {n t : ℕ} → Booked n t → Closure s Booked n t
  follow : {n t u : ℕ} → Closure s Booked n t → (way : Way) (i : ℕ) → i < s.links → near_at way s.script i ≡ n
      → Declares (part_of s t) (label_at way s.script i) u → Closure s Booked (far_at way s.script i) u

-- A set of pairs of the sheet is the closure.
pub record IsClosure (s : Sheet) (Booked : ℕ → ℕ → Type 0) (X : Pairs) : Type 0 where
  pub has : (n t : ℕ) → Closure s Booked n t → Has s X n t
  pub only : (n t : ℕ) → n < s.cards → t < s.shapes → Has s X n t → Closure s Booked n t

-- Every pair of the closure is met under it: the grid is the closure, and the answer is its number of pairs.
pub record Accepted (s : Sheet) (Booked : ℕ → ℕ → Type 0) (grid : List ℕ) (pairs : ℕ) : Type 0 where
  pub typing : Typing s grid
  pub closure : IsClosure s Booked (on grid)
  pub met : (n t : ℕ) → Closure s Booked n t → Met s (on grid) n t
  pub counted : pairs ≡ tally (on grid) (size s)

-- Some pair of the closure is not met under it: the refusal 50 names the lowest such pair, by its card and then by its
-- shape, and the grid is all 0.
pub record TurnedDown (s : Sheet) (Booked : ℕ → ℕ → Type 0) (grid : List ℕ) (n t : ℕ) : Type 0 where
  pub zeros : grid ≡ replicate (size s) 0
  pub set : Pairs
  pub closure : IsClosure s Booked set
  pub inside : Closure s Booked n t
  pub unmet : Met s set n t → ⊥
  pub lowest : (m u : ℕ) → Closure s Booked m u → place s m u < place s n t → Met s set m u

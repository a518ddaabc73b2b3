-- What the judge of a grid says (docs/FORMAT.md, "Judging" and "Judge a grid"): the grid is only read.
-- Verdict                what is found of a grid of the sheet's size, and verdict_said: what is said of it
-- Over, Unmet, Unheld, Passes   when each verdict is right, in the order in which they are looked for
-- Judged                 the verdict is right
-- JudgeFound, JudgeSays  what is said where nothing is refused before; the contract
-- Assumes nothing.
use Rattle.std.specs.Prelude.{ℕ, ◌≤◌, ◌<◌, ◌≡◌, false, List, [], ◌∷◌, get_or}
use Rattle.words.specs.Said.{Said, values, refusal}
use Rattle.words.specs.Answered.{Answered}
use Rattle.board.specs.Grid.{on}
use Rattle.sheet.specs.Sheet.{Sheet, place, size}
use Rattle.bookings.specs.Bookings.{card_index, desk_at, card_at, shape_at, Booked}
use Rattle.typing.specs.Typing.{Has, Met, Holds, Typing, SoundTyping}
use Rattle.typing.specs.Calls.{smallest_reading}

-- A byte that is over 1, by its place; a pair that is not met, by its card and shape; a booking that is not held, by
-- its number in the list; or none of these.
pub data Verdict : Type 0 where
  over : ℕ → Verdict
  unmet : ℕ → ℕ → Verdict
  unheld : ℕ → Verdict
  passes : Verdict

-- What is said of a verdict: 61 at the byte, 62 with a card and a shape, 63 at the booking's card; or nothing to say.
abbrev pub verdict_said : Verdict → Said
verdict_said (over p) = refusal 61 (p ∷ [])
verdict_said (unmet n t) = refusal 62 (n ∷ t ∷ [])
verdict_said (unheld i) = refusal 63 (card_index i ∷ [])
verdict_said passes = values []

-- 61: the byte at p is over 1, and none before it is.
pub record Over (s : Sheet) (grid : List ℕ) (p : ℕ) : Type 0 where
  pub inside : p < size s
  pub over-one : 1 < get_or grid p 0
  pub first : (q : ℕ) → q < p → get_or grid q 0 ≤ 1

-- 62: the grid is a typing and has the pair, which is not met under it; every lower pair that it has is, by card and
-- then by shape.
pub record Unmet (s : Sheet) (grid : List ℕ) (n t : ℕ) : Type 0 where
  pub typing : Typing s grid
  pub card-in : n < s.cards
  pub shape-in : t < s.shapes
  pub has : Has s (on grid) n t
  pub not-met : Met s (on grid) n t → ⊥
  pub lowest : (m u : ℕ) → m < s.cards → u < s.shapes → place s m u < place s n t → Has s (on grid) m u
      → Met s (on grid) m u

-- 63: the grid is a sound typing and has not the pair of booking i, which is the desk's; it has that of every booking
-- of the desk before.
pub record Unheld (s : Sheet) (bookings : List ℕ) (desk : ℕ) (grid : List ℕ) (i : ℕ) : Type 0 where
  pub sound : SoundTyping s grid
  pub listed : i < get_or bookings 0 0
  pub ours : desk_at bookings i ≡ desk
  pub missing : on grid (place s (card_at bookings i) (shape_at bookings i)) ≡ false
  pub first : (j : ℕ) → j < i → desk_at bookings j ≡ desk → Has s (on grid) (card_at bookings j) (shape_at bookings j)

-- Accepted: the grid is a sound typing and holds the bookings.
pub record Passes (s : Sheet) (Booked : ℕ → ℕ → Type 0) (grid : List ℕ) : Type 0 where
  pub sound : SoundTyping s grid
  pub holds : Holds s Booked (on grid)

-- The verdict is right for a grid of the sheet's size.
abbrev pub Judged : Sheet → List ℕ → ℕ → List ℕ → Verdict → Type 0
Judged s bookings desk grid (over p) = Over s grid p
Judged s bookings desk grid (unmet n t) = Unmet s grid n t
Judged s bookings desk grid (unheld i) = Unheld s bookings desk grid i
Judged s bookings desk grid passes = Passes s (Booked bookings desk) grid

-- A right verdict is said.
pub record JudgeFound (s : Sheet) (bookings : List ℕ) (desk : ℕ) (grid : List ℕ) (said : Said) : Type 0 where
  pub verdict : Verdict
  pub says : said ≡ verdict_said verdict
  pub right : Judged s bookings desk grid verdict

-- Judge: of a template, a script, bookings, a desk, the grid, and what is said. The refusals of the template, the
-- script, the bookings, the desk and the grid's size come first, as those of the smallest.
abbrev pub JudgeSays : List ℕ → List ℕ → List ℕ → ℕ → List ℕ → Said → Type 0
JudgeSays template script bookings desk grid said =
    Answered (smallest_reading template script bookings desk grid) (λ refused. said ≡ refused)
    (λ s. JudgeFound s bookings desk grid said)

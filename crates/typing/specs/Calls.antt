-- What the operations for the largest, the smallest and both typings answer, and what becomes of the grids, on all
-- inputs (docs/FORMAT.md, "Operations").
-- with_list, with_bookings, with_stored   the refusals of a list of bookings, and of a stored one
-- with_desk, with_grid                   those of the desk that is asked for, and of a grid
-- listed_reading, booked_reading         template, script and bookings, and these for a desk, or the first refusal
-- largest_reading, smallest_reading, both_reading      the sheet of what is lent, or the first refusal
-- LargestFound, SmallestFound, BothFound            what is said and written where nothing is refused
-- LargestSays, SmallestSays, BothSays               the contracts: a refusal other than 50 changes no grid
-- Assumes nothing.
use Rattle.std.specs.Prelude.{ℕ, ◌≡◌, not, List, [], ◌∷◌, length, ltb, eqb}
use Rattle.words.specs.Said.{Said, values, refusal}
use Rattle.words.specs.Reading.{Reading, accepted, refuse, then, mapped}
use Rattle.words.specs.Answered.{Answered, Unchanged}
use Rattle.board.specs.Grid.{on}
use Rattle.sheet.specs.Sheet.{Sheet, size, read_sheet}
use Rattle.bookings.specs.Bookings as list
use Rattle.stored.specs.Stored.{read_stored}
use Rattle.typing.specs.Typing.{Typing}
use Rattle.typing.specs.Largest.{Largest, bare_cards}
use Rattle.typing.specs.Smallest.{Accepted, TurnedDown}
use Rattle.typing.specs.Demand3.{Outcome, pairs, not_met, Demand3}
use Rattle.typing.specs.Answer.{BothSaid, both_refused}

-- ---- the sheet of what is lent, or the first refusal
-- A list of bookings is refused, by a reading of it, for the sheet's cards and shapes.
abbrev pub with_list : (ℕ → ℕ → Reading ℕ) → Sheet → Reading Sheet
with_list list s = mapped (λ count. s) (list s.cards s.shapes)

-- 30 to 33, 65 and 66 of a list of both desks.
abbrev pub with_bookings : List ℕ → Sheet → Reading Sheet
with_bookings bookings = with_list (λ cards shapes. list.read_bookings cards shapes bookings)

-- 30 to 33 of a stored list, as the tidying pass takes it.
abbrev pub with_stored : List ℕ → Sheet → Reading Sheet
with_stored bookings = with_list (λ cards shapes. read_stored cards shapes bookings)

-- 66: the desk that is asked for is over 1.
abbrev pub with_desk : ℕ → Sheet → Reading Sheet
with_desk desk s = refuse 66 0 (ltb 1 desk) (accepted s)

-- 40: the grid has other bytes than the sheet has pairs.
abbrev pub with_grid : List ℕ → Sheet → Reading Sheet
with_grid grid s = refuse 40 0 (not (eqb (length grid) (size s))) (accepted s)

-- The refusals of template and script come first, then 40.
abbrev pub largest_reading : List ℕ → List ℕ → List ℕ → Reading Sheet
largest_reading template script grid = then (read_sheet template script) (with_grid grid)

-- The refusals of template and script, and those of the bookings, whichever desk's they are.
abbrev pub listed_reading : List ℕ → List ℕ → List ℕ → Reading Sheet
listed_reading template script bookings = then (read_sheet template script) (with_bookings bookings)

-- These, and that of the desk.
abbrev pub booked_reading : List ℕ → List ℕ → List ℕ → ℕ → Reading Sheet
booked_reading template script bookings desk = then (listed_reading template script bookings) (with_desk desk)

-- These, and 40.
abbrev pub smallest_reading : List ℕ → List ℕ → List ℕ → ℕ → List ℕ → Reading Sheet
smallest_reading template script bookings desk grid =
    then (booked_reading template script bookings desk) (with_grid grid)

-- The two grids, before or after a call.
pub record Grids : Type 0 where
  pub small : List ℕ
  pub large : List ℕ

-- The same for both: either grid can cause 40.
abbrev pub both_reading : List ℕ → List ℕ → List ℕ → ℕ → Grids → Reading Sheet
both_reading template script bookings desk grids =
    then (smallest_reading template script bookings desk grids.small) (with_grid grids.large)

-- ---- largest
-- The grid is the largest typing, and what is said are its numbers.
pub record LargestFound (s : Sheet) (grid : List ℕ) (said : Said) : Type 0 where
  pub rounds : ℕ
  pub struck : ℕ
  pub bare : ℕ
  pub says : said ≡ values (rounds ∷ struck ∷ bare ∷ [])
  pub typing : Typing s grid
  pub largest : Largest s rounds struck (on grid)
  pub counted : bare ≡ bare_cards s (on grid)

-- Largest: of a template, a script, the grid before and after the call, and what is said.
abbrev pub LargestSays : List ℕ → List ℕ → List ℕ → List ℕ → Said → Type 0
LargestSays template script before after said =
    Answered (largest_reading template script before) (Unchanged before after said) (λ s. LargestFound s after said)

-- ---- smallest
-- The grid that an outcome of the bookings leaves.
abbrev pub Leaves : Sheet → (ℕ → ℕ → Type 0) → List ℕ → Outcome → Type 0
Leaves s Booked grid (pairs m) = Accepted s Booked grid m
Leaves s Booked grid (not_met n t) = TurnedDown s Booked grid n t

-- What is said of an outcome: the number of pairs, or 50 with a card and a shape.
abbrev pub outcome_said : Outcome → Said
outcome_said (pairs m) = values (m ∷ [])
outcome_said (not_met n t) = refusal 50 (n ∷ t ∷ [])

-- The grid is what the outcome of these bookings leaves, and what is said is said of it.
pub record SmallestFound (s : Sheet) (Booked : ℕ → ℕ → Type 0) (grid : List ℕ) (said : Said) : Type 0 where
  pub outcome : Outcome
  pub says : said ≡ outcome_said outcome
  pub leaves : Leaves s Booked grid outcome

-- Smallest: of a template, a script, bookings, a desk, the grid before and after the call, and what is said.
abbrev pub SmallestSays : List ℕ → List ℕ → List ℕ → ℕ → List ℕ → List ℕ → Said → Type 0
SmallestSays template script bookings desk before after said =
    Answered (smallest_reading template script bookings desk before) (Unchanged before after said)
    (λ s. SmallestFound s (list.Booked bookings desk) after said)

-- ---- both
-- Both typings of one sheet: each as its own call gives it, and what holds of the two together.
pub record BothFound (s : Sheet) (Booked : ℕ → ℕ → Type 0) (small large : List ℕ) (said : BothSaid) : Type 0 where
  pub largest : LargestFound s large said.largest
  pub smallest : SmallestFound s Booked small said.smallest
  pub demand : Demand3 s Booked large largest.rounds largest.struck largest.bare small smallest.outcome

-- Both: of a template, a script, bookings, a desk, the two grids before and after the call, and what is said.
abbrev pub BothSays : List ℕ → List ℕ → List ℕ → ℕ → Grids → Grids → BothSaid → Type 0
BothSays template script bookings desk before after said =
    Answered (both_reading template script bookings desk before)
    (λ refused. Unchanged before after said (both_refused refused))
    (λ s. BothFound s (list.Booked bookings desk) after.small after.large said)

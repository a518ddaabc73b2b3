-- What the call for the typings of both desks answers, and what becomes of the grids, on all inputs (docs/FORMAT.md,
-- "The printer", prints them).
-- DeskGrids      the three grids: of each desk's smallest typing, and of the largest
-- desks_reading   the sheet of what is lent, or the first refusal
-- DesksFound     what is said and written where nothing is refused
-- DesksSays      the contract: a refusal other than 50 changes no grid
-- Assumes nothing.
use Rattle.std.specs.Prelude.{ℕ, List}
use Rattle.words.specs.Reading.{Reading, then}
use Rattle.words.specs.Answered.{Answered, Unchanged}
use Rattle.sheet.specs.Sheet.{Sheet}
use Rattle.bookings.specs.Bookings.{Booked}
use Rattle.typing.specs.Answer.{DesksSaid, desks_refused}
use Rattle.typing.specs.Calls.{listed_reading, with_grid, BothFound}

-- The grids, before or after a call.
pub record DeskGrids : Type 0 where
  pub radio : List ℕ
  pub television : List ℕ
  pub large : List ℕ

-- The refusals of template and script, those of the bookings, 40: each grid can cause it.
abbrev pub desks_reading : List ℕ → List ℕ → List ℕ → DeskGrids → Reading Sheet
desks_reading template script bookings grids =
    then (then (then (listed_reading template script bookings) (with_grid grids.radio))
    (with_grid grids.television)) (with_grid grids.large)

-- Each desk's smallest typing and the largest, as the call for both gives them for the desk.
pub record DesksFound (s : Sheet) (bookings : List ℕ) (grids : DeskGrids) (said : DesksSaid) : Type 0 where
  pub radio : BothFound s (Booked bookings 0) grids.radio grids.large
      (record { largest = said.largest; smallest = said.radio })
  pub television : BothFound s (Booked bookings 1) grids.television grids.large
      (record { largest = said.largest; smallest = said.television })

-- Both desks: of a template, a script, bookings, the grids before and after the call, and what is said.
abbrev pub DesksSays : List ℕ → List ℕ → List ℕ → DeskGrids → DeskGrids → DesksSaid → Type 0
DesksSays template script bookings before after said =
    Answered (desks_reading template script bookings before)
    (λ refused. Unchanged before after said (desks_refused refused)) (λ s. DesksFound s bookings after said)

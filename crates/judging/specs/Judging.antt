-- A grid tested against itself and against bookings; no part of a promise.
-- LinkGood     what a link makes good by a row; LinkTested: what testing that asks
-- LeavingTested, ArrivingTested   what testing what the links from a card, and those to it, ask for asks
-- met          a pair of a grid is met under it
-- GridAsked    what testing the pairs of a grid asks; MetAsked: and one pair
-- Failing      a pair of a grid is not met under it
-- PairAsked    what looking for one booking asks; HeldAsked: for all
-- Missing      a booking of a desk is not in the grid
-- Assumes nothing.
use Rattle.std.specs.Prelude.{ℕ, ◌+◌, ◌*◌, ◌≤◌, ◌<◌, ◌≡◌, List, Bool, true, false, length, get_or}
use Rattle.words.specs.Limits.{max_shapes}
use Rattle.bags.specs.Label.{Way, outgoing, incoming}
use Rattle.script.specs.Link.{far_at}
use Rattle.links.specs.Index.{ArrivalsOf}
use Rattle.board.specs.Grid.{on}
use Rattle.bookings.specs.Bookings.{desk_at, card_at, shape_at}
use Rattle.bookings.specs.Steps.{ListOf, WordsIn, BookingsIn}
use Rattle.typing.specs.Needs.{met_test}
use Rattle.walks.specs.declared.walk.Walk.{Walk}
use Rattle.walks.specs.Walks.{WalkReady}
use Rattle.walks.specs.Entries.{LedGood, RowAsked}
use Rattle.judging.specs.declared.Judged.{Judged}

-- What a link makes good by a row, for the card at its end that is seen one way.
abbrev pub LinkGood : Way → Judged → List ℕ → ℕ → ℕ → Type 0
LinkGood way j row = LedGood way j.walk.script.now row j.walk.shapes

-- What testing link i by a row asks, where it makes good a pair of a card.
pub record LinkTested (j : Judged) (row : List ℕ) (i card : ℕ) : Type 0 where
  pub way : Way
  pub row_in : RowAsked way j.walk.script.now row j.walk.shapes (length j.grid.now)
  pub link-in : i < get_or j.walk.script.now 1 0
  pub leads : card ≡ far_at way j.walk.script.now i

-- What testing the links lo up to hi by a row asks.
pub record LeavingTested (j : Judged) (row : List ℕ) (lo hi : ℕ) : Type 0 where
  pub row_in : RowAsked outgoing j.walk.script.now row j.walk.shapes (length j.grid.now)
  pub rising : lo ≤ hi
  pub links-in : hi ≤ get_or j.walk.script.now 1 0

-- What testing the links to card m by a row asks.
pub record ArrivingTested (j : Judged) (row : List ℕ) (m : ℕ) : Type 0 where
  pub row_in : RowAsked incoming j.walk.script.now row j.walk.shapes (length j.grid.now)
  pub arrivals : ArrivalsOf j.walk.script.now j.walk.first.now j.walk.next.now (m + 1) (get_or j.walk.script.now 1 0)

-- Whether the pair at a place is met under the grid.
abbrev pub met : Judged → ℕ → Bool
met j p = met_test j.walk.script.now j.walk.names.now j.walk.shapes j.fitting.now (on j.grid.now) p

-- What testing the pairs of a grid asks: where each card's links stand, and a grid of the pairs that fit.
pub record GridAsked (walk : Walk) (fitting grid : List ℕ) : Type 0 where
  pub links : WalkReady walk
  pub full : length grid ≡ get_or walk.script.now 0 0 * walk.shapes
  pub tested : length fitting ≡ length grid

-- And a pair of it.
pub record MetAsked (j : Judged) (p : ℕ) : Type 0 where
  pub lent : GridAsked j.walk j.fitting.now j.grid.now
  pub on-board : p < length j.grid.now

-- The grid has the pair at place p, which is not met under it.
abbrev pub Failing : List ℕ → List ℕ → ℕ → List ℕ → List ℕ → ℕ → Type 0
Failing script names shapes fits grid p =
    (on grid p ≡ true) × (met_test script names shapes fits (on grid) p ≡ false)

-- What looking for one booking in a grid asks.
pub record PairAsked (bookings : List ℕ) (i shapes : ℕ) (grid : List ℕ) : Type 0 where
  pub words : WordsIn 3 bookings i
  pub few-shapes : shapes ≤ max_shapes
  pub inside : card_at bookings i * shapes + shape_at bookings i < length grid

-- What looking for all of them asks.
pub record HeldAsked (bookings : List ℕ) (count shapes : ℕ) (grid : List ℕ) : Type 0 where
  pub cards : ℕ
  pub sized : ListOf 3 bookings count
  pub few-shapes : shapes ≤ max_shapes
  pub full : length grid ≡ cards * shapes
  pub booked-in : BookingsIn bookings cards shapes count

-- Booking i is the desk's, and the grid has not its pair.
abbrev pub Missing : List ℕ → ℕ → ℕ → List ℕ → ℕ → Type 0
Missing bookings desk shapes grid i =
    (desk_at bookings i ≡ desk) × (on grid (card_at bookings i * shapes + shape_at bookings i) ≡ false)

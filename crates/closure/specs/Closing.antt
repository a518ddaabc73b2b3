-- The closure of the bookings, and whether its pairs fit; no part of a promise.
-- BookedAt     a booking of a desk is of the pair at a place
-- MarkAsked, Marked       turning the booked pairs off: what that asks, and just these are off
-- CloseAsked, Closes      a grid is the closure of the bookings
-- UnfitAsked, UnfitFound  the lowest pair of the closure that does not fit, if there is one
-- Assumes nothing.
use Rattle.std.specs.Prelude.{ℕ, ◌+◌, ◌*◌, ◌≤◌, ◌<◌, ◌≡◌, List, false, length, get_or, replicate, Option, MatchOption}
use Rattle.words.specs.declared.Card.{Card}
use Rattle.words.specs.declared.Shape.{Shape}
use Rattle.words.specs.Limits.{max_cards, max_shapes}
use Rattle.words.specs.Sizes.{max_grid}
use Rattle.board.specs.Grid.{on}
use Rattle.board.specs.Machine.{Marks, FirstMissing}
use Rattle.board.specs.Board.{Flooded}
use Rattle.typing.specs.Needs.{board_of}
use Rattle.bookings.specs.Bookings.{desk_at, card_at, shape_at}
use Rattle.bookings.specs.Steps.{ListOf, BookingsIn}
use Rattle.walks.specs.declared.walk.Walk.{Walk}
use Rattle.walks.specs.Walks.{WalkReady}

-- One of the first k bookings is the desk's, and of the pair at place p.
pub record BookedAt (bookings : List ℕ) (desk shapes k p : ℕ) : Type 0 where
  pub booking : ℕ
  pub listed : booking < k
  pub ours : desk_at bookings booking ≡ desk
  pub at : p ≡ card_at bookings booking * shapes + shape_at bookings booking

-- What turning the pairs of a desk's bookings off asks: a grid that has every pair.
pub record MarkAsked (bookings : List ℕ) (count cards shapes : ℕ) (grid : List ℕ) : Type 0 where
  pub sized : ListOf 3 bookings count
  pub full : length grid ≡ cards * shapes
  pub few-cards : cards ≤ max_cards
  pub few-shapes : shapes ≤ max_shapes
  pub booked-in : BookingsIn bookings cards shapes count
  pub ones : (p : ℕ) → p < length grid → get_or grid p 0 ≡ 1

-- The pairs of the first k bookings that are the desk's are off in the grid, and no others.
pub record Marked (bookings : List ℕ) (desk shapes k : ℕ) (grid : List ℕ) : Type 0 where
  pub only : (p : ℕ) → p < length grid → on grid p ≡ false → BookedAt bookings desk shapes k p
  pub each : (p : ℕ) → BookedAt bookings desk shapes k p → on grid p ≡ false

-- What the closure asks: where each card's links stand, bookings that are read, a byte for each pair, and room for all
-- in the buffer of the queue.
pub record CloseAsked (walk : Walk) (bookings : List ℕ) (count cards : ℕ) (grid room : List ℕ) : Type 0 where
  pub links : WalkReady walk
  pub all-cards : cards ≡ get_or walk.script.now 0 0
  pub sized : ListOf 3 bookings count
  pub booked-in : BookingsIn bookings cards walk.shapes count
  pub full : length grid ≡ cards * walk.shapes
  pub room-in : length grid ≤ length room

-- The grid has just the closure of the first k bookings that are the desk's, and so many pairs. Which pairs fit plays
-- no part.
pub record Closes (script names : List ℕ) (shapes : ℕ) (bookings : List ℕ) (desk k : ℕ) (grid : List ℕ) (found : ℕ)
    : Type 0 where
  pub full : length grid ≡ get_or script 0 0 * shapes
  pub marks : Marks grid
  pub closure : (fits : List ℕ)
      → Flooded (board_of script names shapes fits) (BookedAt bookings desk shapes k) (on grid) found

-- What testing the closure asks: a grid of the same size for the pairs that fit.
pub record UnfitAsked (closure fitting : List ℕ) (shapes : ℕ) : Type 0 where
  pub full : length closure ≡ length fitting
  pub one-shape : 0 < shapes
  pub few-shapes : shapes ≤ max_shapes
  pub few-places : length closure ≤ max_grid

-- All pairs of the closure fit and the grid stays; or the lowest that does not fit, and the grid is all 0.
abbrev pub UnfitFound : List ℕ → List ℕ → ℕ → List ℕ → Option (Card × Shape) → Type 0
UnfitFound closure fitting shapes after found =
    MatchOption found ((after ≡ closure) × FirstMissing closure fitting (length closure))
    (λ pair. (after ≡ replicate (length closure) 0) × FirstMissing closure fitting (pair.0.0 * shapes + pair.1.0)
    × (pair.0.0 * shapes + pair.1.0 < length closure) × (pair.1.0 < shapes))

-- Grids of other makers, which are judged: what widens the third demand.
-- JudgedGrids    what holds of the judge for a template, a script, a list of bookings and a desk
-- JudgeDemand    it holds for all that are well-formed; proofs/JudgedGrids proves it
-- Assumes nothing.
use Rattle.std.specs.Prelude.{ℕ, ◌≤◌, ◌≡◌, ◌↔◌, List, [], length}
use Rattle.words.specs.Said.{Said, values}
use Rattle.sheet.specs.Sheet.{Sheet, size}
use Rattle.bookings.specs.Bookings.{Booked}
use Rattle.board.specs.Grid.{on}
use Rattle.typing.specs.Typing.{Below, Holds, SoundTyping}
use Rattle.typing.specs.Calls.{LargestSays, SmallestSays}
use Rattle.typing.specs.Judge.{JudgeSays}
use Rattle.demands.specs.Formed.{Formed, BookingsFormed}
use Rattle.demands.specs.Listed.{Says50}

-- The judge of grids, for every well-formed template, script and list of bookings, and either desk:
pub record JudgedGrids (template script bookings : List ℕ) (desk : ℕ) (s : Sheet) : Type 0 where
  -- a grid is accepted exactly if it is a sound typing that has the bookings
  pub exact : (grid : List ℕ) (said : Said) → JudgeSays template script bookings desk grid said
      → (said ≡ values []) ↔ (SoundTyping s grid × Holds s (Booked bookings desk) (on grid))
  -- where the bookings are not turned down, each grid that the calls for the two typings write is accepted,
  pub takes-ours : (large-before small-before large small : List ℕ) (of-large of-small : Said)
      → length large-before ≡ size s → length small-before ≡ size s
      → LargestSays template script large-before large of-large
      → SmallestSays template script bookings desk small-before small of-small → (Says50 of-small → ⊥)
      → (said : Said) → (JudgeSays template script bookings desk small said → said ≡ values [])
      × (JudgeSays template script bookings desk large said → said ≡ values [])
  -- and each one that is accepted lies between them
  pub between : (large-before small-before large small : List ℕ) (of-large of-small : Said)
      → length large-before ≡ size s → length small-before ≡ size s
      → LargestSays template script large-before large of-large
      → SmallestSays template script bookings desk small-before small of-small
      → (grid : List ℕ) → JudgeSays template script bookings desk grid (values [])
      → Below s (on small) (on grid) × Below s (on grid) (on large)
  -- some grid is accepted exactly if the bookings are not turned down
  pub some : (before small : List ℕ) (said : Said) → length before ≡ size s
      → SmallestSays template script bookings desk before small said
      → ((grid : List ℕ) × JudgeSays template script bookings desk grid (values [])) ↔ (Says50 said → ⊥)

abbrev pub JudgeDemand : Type 0
JudgeDemand = (template script bookings : List ℕ) (desk : ℕ) (s : Sheet) → Formed template script s
    → BookingsFormed s.cards s.shapes bookings → desk ≤ 1 → JudgedGrids template script bookings desk s

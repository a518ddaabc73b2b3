-- Pairs struck one at a time, in any order: what widens the third demand.
-- OrderDemand    whatever the order, striking ends in what a call writes for the largest typing, after as many strikes
--                as it says; proofs/SingleStrikes proves it
-- From the promise, AnyOrder: for every sequence of single strikes (Strikes) that starts from every pair and strikes
-- only a pair that is left and is not met at that moment. Where all pairs left are met, just the pairs of the grid are
-- left, and the length of the sequence is the number struck. Until then it can go on (Left), it is never longer, and
-- there is one that stops.
-- Assumes nothing.
use Rattle.std.specs.Prelude.{ℕ, ◌≡◌, List, [], ◌∷◌}
use Rattle.words.specs.Said.{values}
use Rattle.sheet.specs.Sheet.{Sheet}
use Rattle.typing.specs.Answer.{BothSaid, DesksSaid}
use Rattle.typing.specs.Calls.{Grids, LargestSays, BothSays}
use Rattle.typing.specs.Desks.{DeskGrids, DesksSays}
use Rattle.typing.specs.Orders.{AnyOrder}
use Rattle.demands.specs.Formed.{Formed}

-- For every well-formed template and script, whatever the grids held: where rounds, pairs struck and cards are said of
-- the largest typing, AnyOrder holds of the grid that is left of it and of the number struck,
pub record OrderDemand : Type 0 where
  -- by the call for the largest,
  pub largest : (template script : List ℕ) (s : Sheet) → Formed template script s
      → (before large : List ℕ) (rounds struck bare : ℕ)
      → LargestSays template script before large (values (rounds ∷ struck ∷ bare ∷ []))
      → AnyOrder s large struck
  -- by that for both, whatever is booked and for either desk,
  pub both : (template script : List ℕ) (s : Sheet) → Formed template script s
      → (bookings : List ℕ) (desk : ℕ) (before after : Grids) (said : BothSaid) (rounds struck bare : ℕ)
      → said.largest ≡ values (rounds ∷ struck ∷ bare ∷ [])
      → BothSays template script bookings desk before after said
      → AnyOrder s after.large struck
  -- and by that for both desks
  pub desks : (template script : List ℕ) (s : Sheet) → Formed template script s
      → (bookings : List ℕ) (before after : DeskGrids) (said : DesksSaid) (rounds struck bare : ℕ)
      → said.largest ≡ values (rounds ∷ struck ∷ bare ∷ [])
      → DesksSays template script bookings before after said
      → AnyOrder s after.large struck

-- The calls for the largest and for the smallest made apart, on one sheet and with grids of the right size: the two
-- answers together are those of the call for both, so demand 3 holds of the two grids and the numbers.
--   apart          what the call for both answers
--   apart-demand   demand 3 of the two calls' grids and numbers
-- Assumes nothing.
use Prim.Native.Nat.{ℕ}
use mathlib.Core.Path.{◌≡◌, sym, ◌∙◌}
use mathlib.Core.List.{List, [], ◌∷◌}
use Rattle.words.specs.Said.{Said, values}
use Rattle.bookings.specs.Bookings.{Booked}
use Rattle.words.specs.Reading.{accepted}
use Rattle.sheet.specs.Sheet.{Sheet, read_sheet}
use Rattle.typing.specs.Demand3.{Outcome, pairs, not_met, Demand3}
use Rattle.typing.specs.Calls.{booked_reading, largest_reading, smallest_reading, LargestFound, SmallestFound}
use Rattle.typing.specs.Calls.{BothFound, LargestSays, SmallestSays, outcome_said}
use Rattle.typing.proofs.Booked.{grid-asked, bookings-asked}
use Rattle.typing.proofs.Demand.{both_found}
use Rattle.typing.proofs.Existence.{represented}

-- An outcome is told by what is said of it.
outcome-said-unique : (o q : Outcome) → outcome_said o ≡ outcome_said q → o ≡ q
outcome-said-unique (pairs m) (pairs k) e = cc
outcome-said-unique (pairs m) (not_met n t) e = cc
outcome-said-unique (not_met n t) (pairs m) e = cc
outcome-said-unique (not_met n t) (not_met m u) e = cc

module _ (template script bookings : List ℕ) (desk : ℕ) (before other : List ℕ) (s : Sheet)
    (largest-asks : largest_reading template script before ≡ accepted s)
    (smallest-asks : smallest_reading template script bookings desk other ≡ accepted s)
    (large small : List ℕ) (a b : Said)
    (x : LargestSays template script before large a)
    (y : SmallestSays template script bookings desk other small b) where
  -- The two answers together are an answer of the call for both.
  pub apart : BothFound s (Booked bookings desk) small large (record { largest = a; smallest = b })
  apart =
      let sheet = read_sheet template script in
      let (listed, full) = grid-asked other (booked_reading template script bookings desk) s smallest-asks in
      let (read, inside) = bookings-asked bookings desk sheet s listed in
      let l : LargestFound s large a = rw largest-asks at x in
      let m : SmallestFound s (Booked bookings desk) small b = rw smallest-asks at y in
      both_found (represented template script s read).1 inside l m

  -- Demand 3 of the numbers that the two calls say and the grids that they leave.
  pub apart-demand : (rounds struck bare : ℕ) (outcome : Outcome)
      → a ≡ values (rounds ∷ struck ∷ bare ∷ []) → b ≡ outcome_said outcome
      → Demand3 s (Booked bookings desk) large rounds struck bare small outcome
  apart-demand rounds struck bare outcome e f =
      let found = apart in
      let l : values (found.largest.rounds ∷ found.largest.struck ∷ found.largest.bare ∷ [])
      ≡ values (rounds ∷ struck ∷ bare ∷ []) = sym found.largest.says ∙ e in
      let m : found.smallest.outcome ≡ outcome =
      outcome-said-unique found.smallest.outcome outcome (sym found.smallest.says ∙ f) in
      let i : found.largest.rounds ≡ rounds = cc in
      let j : found.largest.struck ≡ struck = cc in
      let k : found.largest.bare ≡ bare = cc in
      rw (i, j, k, m) at found.demand

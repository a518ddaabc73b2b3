-- What each way out of the call for both typings answers where what is lent is read (docs/FORMAT.md, "Operations").
--   both-large, both-done
-- Assumes nothing.
use Prim.Native.Nat.{ℕ}
use mathlib.Core.Path.{◌≡◌, refl}
use mathlib.Core.List.{List, [], ◌∷◌}
use lib.ListN.{length}
use borrow.Author.Tests.{eq-eqb, ne_eqb}
use Rattle.words.specs.Said.{refusal}
use Rattle.words.specs.Reading.{accepted}
use Rattle.sheet.specs.Sheet.{Sheet, size}
use Rattle.bookings.specs.Bookings.{Booked}
use Rattle.typing.specs.Answer.{BothSaid, both_refused}
use Rattle.typing.specs.Calls.{smallest_reading, BothFound, Grids, BothSays}

module _ (template script bookings : List ℕ) (desk : ℕ) (before : Grids) where
  module _ (s : Sheet) (h : smallest_reading template script bookings desk before.small ≡ accepted s) where
    pub both-large : (length before.large ≡ size s → ⊥)
        → BothSays template script bookings desk before before (both_refused (refusal 40 (0 ∷ [])))
    both-large ne = rw (h, ne_eqb (length before.large) (size s) ne) (refl, refl)

    pub both-done : (after : Grids) (said : BothSaid) → length before.large ≡ size s
        → BothFound s (Booked bookings desk) after.small after.large said
        → BothSays template script bookings desk before after said
    both-done after said e found = rw (h, eq-eqb (length before.large) (size s) e) found

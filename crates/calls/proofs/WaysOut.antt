-- What each way out of the calls for the largest and for the smallest typing answers where what is lent is read
-- (docs/FORMAT.md, "Operations").
--   largest_size, largest-done
--   smallest-done
-- Assumes nothing.
use Prim.Native.Nat.{ℕ}
use mathlib.Core.Path.{◌≡◌, refl}
use mathlib.Core.List.{List, [], ◌∷◌}
use lib.ListN.{length}
use borrow.Author.Tests.{eq-eqb, ne_eqb}
use Rattle.words.specs.Said.{Said, refusal}
use Rattle.words.specs.Reading.{accepted}
use Rattle.sheet.specs.Sheet.{Sheet, size, read_sheet}
use Rattle.bookings.specs.Bookings.{Booked}
use Rattle.typing.specs.Calls.{smallest_reading, LargestFound, LargestSays, SmallestFound, SmallestSays}

module _ (template script : List ℕ) where
  module _ (s : Sheet) (h : read_sheet template script ≡ accepted s) where
    pub largest_size : (grid : List ℕ) → (length grid ≡ size s → ⊥)
        → LargestSays template script grid grid (refusal 40 (0 ∷ []))
    largest_size grid ne = rw (h, ne_eqb (length grid) (size s) ne) (refl, refl)

    pub largest-done : (before after : List ℕ) (said : Said) → length before ≡ size s → LargestFound s after said
        → LargestSays template script before after said
    largest-done before after said e found = rw (h, eq-eqb (length before) (size s) e) found

  module _ (bookings : List ℕ) (desk : ℕ) (grid : List ℕ) where
    pub smallest-done : (s : Sheet) → smallest_reading template script bookings desk grid ≡ accepted s
        → (after : List ℕ) (said : Said) → SmallestFound s (Booked bookings desk) after said
        → SmallestSays template script bookings desk grid after said
    smallest-done s h after said found = rw h found

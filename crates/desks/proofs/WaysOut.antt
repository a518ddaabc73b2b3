-- What each way out of the call for the typings of both desks answers where what is lent is read (docs/FORMAT.md,
-- "Operations").
--   desks-radio, desks-television, desks-large, desks-done
-- Assumes nothing.
use Prim.Native.Nat.{ℕ}
use mathlib.Core.Path.{◌≡◌, refl}
use mathlib.Core.List.{List, [], ◌∷◌}
use lib.ListN.{length}
use borrow.Author.Tests.{eq-eqb, ne_eqb}
use Rattle.words.specs.Said.{refusal}
use Rattle.words.specs.Reading.{accepted}
use Rattle.sheet.specs.Sheet.{Sheet, size}
use Rattle.typing.specs.Answer.{DesksSaid, desks_refused}
use Rattle.typing.specs.Calls.{listed_reading}
use Rattle.typing.specs.Desks.{DeskGrids, DesksFound, DesksSays}

-- One refusal for all that the call says: the size of a grid.
abbrev resized : DesksSaid
resized = desks_refused (refusal 40 (0 ∷ []))

module _ (template script bookings : List ℕ) where
  module _ (s : Sheet) (h : listed_reading template script bookings ≡ accepted s) (grids : DeskGrids) where
    pub desks-radio : (length grids.radio ≡ size s → ⊥)
        → DesksSays template script bookings grids grids resized
    desks-radio ne = rw (h, ne_eqb (length grids.radio) (size s) ne) (refl, refl)

    module _ (e : length grids.radio ≡ size s) where
      pub desks-television : (length grids.television ≡ size s → ⊥)
          → DesksSays template script bookings grids grids resized
      desks-television ne = rw (
        h,
        eq-eqb (length grids.radio) (size s) e,
        ne_eqb (length grids.television) (size s) ne,
      ) (refl, refl)

      module _ (f : length grids.television ≡ size s) where
        pub desks-large : (length grids.large ≡ size s → ⊥)
            → DesksSays template script bookings grids grids resized
        desks-large ne = rw (
          h,
          eq-eqb (length grids.radio) (size s) e,
          eq-eqb (length grids.television) (size s) f,
          ne_eqb (length grids.large) (size s) ne,
        ) (refl, refl)

        pub desks-done : (after : DeskGrids) (said : DesksSaid) → length grids.large ≡ size s
            → DesksFound s bookings after said → DesksSays template script bookings grids after said
        desks-done after said g found = rw (
          h,
          eq-eqb (length grids.radio) (size s) e,
          eq-eqb (length grids.television) (size s) f,
          eq-eqb (length grids.large) (size s) g,
        ) found

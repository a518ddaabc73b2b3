-- What each way out of the call that tidies bookings answers where the sheet is read, in the format's order of refusals
-- (docs/FORMAT.md, "Operations").
--   tidy-refused, tidy-size, tidy-done
-- Assumes nothing.
use Prim.Native.Nat.{ℕ, ◌+◌, ◌*◌}
use mathlib.Core.Path.{◌≡◌, refl}
use mathlib.Core.List.{List, [], ◌∷◌}
use lib.ListN.{length, get_or}
use borrow.Author.Tests.{eq-eqb, ne_eqb}
use Rattle.words.specs.Said.{values, refusal}
use Rattle.words.specs.Reading.{Reading, accepted, turned_down}
use Rattle.words.specs.Wrote.{Wrote}
use Rattle.words.proofs.Writing.{wrote-writes}
use Rattle.sheet.specs.Opened.{Known}
use Rattle.sheet.specs.declared.Extent.{Extent}
use Rattle.stored.specs.Stored.{read_stored}
use Rattle.stored.specs.Tidied.{tidied}
use Rattle.typing.specs.Tidy.{TidySays}
use Rattle.lent.proofs.Readings.{list-refused, list-taken}

module _ {template script names : List ℕ} {e : Extent} (k : Known template script names e) (bookings : List ℕ) where
  abbrev reading : ℕ → ℕ → Reading ℕ
  reading cards shapes = read_stored cards shapes bookings

  pub tidy-refused : (out : List ℕ) {number place : ℕ} → reading e.cards e.shapes ≡ turned_down number place
      → TidySays template script bookings out out (refusal number (place ∷ []))
  tidy-refused out h = rw (list-refused reading k h) (refl, refl)

  module _ {count : ℕ} (stored : reading e.cards e.shapes ≡ accepted count) where
    pub tidy-size : (out : List ℕ) → (length out ≡ 1 + 3 * get_or bookings 0 0 → ⊥)
        → TidySays template script bookings out out (refusal 40 (0 ∷ []))
    tidy-size out ne =
        rw (list-taken reading k stored, ne_eqb (length out) (1 + 3 * get_or bookings 0 0) ne) (refl, refl)

    pub tidy-done : (before after : List ℕ) (words : ℕ) → length before ≡ 1 + 3 * get_or bookings 0 0
        → Wrote before 0 (tidied bookings) after words
        → TidySays template script bookings before after (values (words ∷ []))
    tidy-done before after words same w =
        rw (list-taken reading k stored, eq-eqb (length before) (1 + 3 * get_or bookings 0 0) same) (wrote-writes w)

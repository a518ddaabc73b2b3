-- The bookings of a list that is read are in the sheet.
--   grid-asked, buffer-asked   a sheet that passes the refusal of a grid, or of the buffer for a tidied list, is the
--                              sheet before it, and what is lent has the size
--   grid-taken, buffer-taken   what has it passes
--   desk-asked, desk-taken     the same of the refusal of a desk
--   list-asked, bookings-asked   one that passes the bookings' refusals, and then the desk's, is the sheet before them,
--                              and the bookings are in it
-- Assumes nothing.
use Prim.Native.Nat.{ℕ, ◌+◌, ◌*◌, ◌≤◌}
use mathlib.Core.Path.{◌≡◌, refl, subst, ap, ◌∙◌}
use mathlib.Core.Bool.{not}
use mathlib.Core.List.{List}
use lib.ListN.{length, get_or}
use lib.Dec.{ltb, eqb}
use borrow.Author.Tests.{eqb-true, eq-eqb, not-false, ltb-false, le-ltb}
use Rattle.words.specs.Reading.{Reading, accepted, refuse, then}
use Rattle.words.proofs.Readings.{accepted-same, passed, then-accepted}
use Rattle.sheet.specs.Sheet.{Sheet, size}
use Rattle.sheet.proofs.Accepted.{mapped-accepted}
use Rattle.bookings.specs.Bookings.{read_bookings, Booked}
use Rattle.bookings.proofs.Accepted.{bookings-in}
use Rattle.typing.specs.Calls.{with_grid, with_bookings, with_desk}
use Rattle.typing.specs.Tidy.{with_buffer}
use Rattle.typing.proofs.Smallest.{BookedIn}

-- What is lent has the size that the sheet asks for, or it is refused with 40.
module _ (want : Sheet → ℕ) (lent : List ℕ) where
  abbrev sized : Sheet → Reading Sheet
  sized s = refuse 40 0 (not (eqb (length lent) (want s))) (accepted s)

  sized-asked : (r : Reading Sheet) (s : Sheet) → then r sized ≡ accepted s → (r ≡ accepted s) × (length lent ≡ want s)
  sized-asked r s e =
      let (q, read, rest) = then-accepted r sized s e in
      let (other, last) = passed 40 0 (not (eqb (length lent) (want q))) (accepted q) s rest in
      let full = eqb-true (length lent) (want q) (not-false _ other) in
      (read ∙ last, subst (λ (x : Sheet). length lent ≡ want x) (accepted-same last) full)

  sized-taken : (r : Reading Sheet) (s : Sheet) → r ≡ accepted s → length lent ≡ want s → then r sized ≡ accepted s
  sized-taken r s read full = rw (read, eq-eqb (length lent) (want s) full) refl

module _ (grid : List ℕ) (r : Reading Sheet) (s : Sheet) where
  pub grid-asked : then r (with_grid grid) ≡ accepted s → (r ≡ accepted s) × (length grid ≡ size s)
  grid-asked = sized-asked size grid r s

  pub grid-taken : r ≡ accepted s → length grid ≡ size s → then r (with_grid grid) ≡ accepted s
  grid-taken = sized-taken size grid r s

module _ (bookings out : List ℕ) (r : Reading Sheet) (s : Sheet) where
  pub buffer-asked : then r (with_buffer bookings out) ≡ accepted s
      → (r ≡ accepted s) × (length out ≡ 1 + 3 * get_or bookings 0 0)
  buffer-asked = sized-asked (λ q. 1 + 3 * get_or bookings 0 0) out r s

  pub buffer-taken : r ≡ accepted s → length out ≡ 1 + 3 * get_or bookings 0 0
      → then r (with_buffer bookings out) ≡ accepted s
  buffer-taken = sized-taken (λ q. 1 + 3 * get_or bookings 0 0) out r s

module _ (desk : ℕ) (r : Reading Sheet) (s : Sheet) where
  pub desk-asked : then r (with_desk desk) ≡ accepted s → (r ≡ accepted s) × (desk ≤ 1)
  desk-asked e =
      let (q, read, rest) = then-accepted r (with_desk desk) s e in
      let (few, last) = passed 66 0 (ltb 1 desk) (accepted q) s rest in
      (read ∙ last, ltb-false 1 desk few)

  pub desk-taken : r ≡ accepted s → desk ≤ 1 → then r (with_desk desk) ≡ accepted s
  desk-taken read few = rw (read, le-ltb 1 desk few) refl

pub list-asked : (bookings : List ℕ) (r : Reading Sheet) (s : Sheet) → then r (with_bookings bookings) ≡ accepted s
    → (r ≡ accepted s) × ((desk : ℕ) → BookedIn s (Booked bookings desk))
list-asked bookings r s e =
    let (q, read, rest) = then-accepted r (with_bookings bookings) s e in
    let (count, listed, same) = mapped-accepted (λ count. q) (read_bookings q.cards q.shapes bookings) s rest in (
      read ∙ ap accepted same,
      λ desk. subst (λ (x : Sheet). BookedIn x (Booked bookings desk)) same
          (bookings-in q.cards q.shapes bookings count listed),
    )

pub bookings-asked : (bookings : List ℕ) (desk : ℕ) (r : Reading Sheet) (s : Sheet)
    → then (then r (with_bookings bookings)) (with_desk desk) ≡ accepted s
    → (r ≡ accepted s) × BookedIn s (Booked bookings desk)
bookings-asked bookings desk r s e =
    let (read, inside) = list-asked bookings r s (desk-asked desk (then r (with_bookings bookings)) s e).0 in
    (read, inside desk)

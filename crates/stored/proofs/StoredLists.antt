-- What reading a stored list finds, the bookings of one that is read, and the numbers of its refusals.
--   stored-card, stored-shape, stored-passed   one booking: 32, 33, or none of these
--   StoredFine, stored_exact     a stored list is read exactly if all of it is in order
--   stored-count, stored-sized   the count that is read is the list's first word, and the list has that many
--   stored-each                  each is of a card and a shape below the counts
--   stored-booked                a pair is booked exactly if one of the bookings is of it, for desk 0
--   StoredNumber, stored-numbers   it is refused with 30 to 33
-- Assumes nothing.
use Prim.Native.Nat.{ℕ, ◌≤◌, ◌<◌}
use mathlib.Core.Path.{◌≡◌, refl, sym, ap, subst}
use mathlib.Core.Logic.{◌↔◌}
use mathlib.Core.Bool.{true}
use mathlib.Core.List.{List}
use native.Mathlib.Omega.{arith}
use lib.ListN.{get_or}
use lib.Dec.{leb}
use borrow.Author.Tests.{leb-false, le-leb, lt-leb}
use Rattle.words.specs.Reading.{Reading, accepted, turned_down}
use Rattle.words.proofs.Readings.{passed, Numbered, refuse-numbered}
use Rattle.bookings.specs.Bookings.{Booking, booked_before}
use Rattle.stored.specs.Stored.{stored_card_index, stored_shape_index, stored_card_at, stored_shape_at, stored_at}
use Rattle.stored.specs.Stored.{stored_rule, read_stored, StoredBooked}
use Rattle.bookings.specs.Steps.{ListOf}
use Rattle.bookings.proofs.Repeats.{before-exact, booking-same}
use Rattle.bookings.proofs.Reading.{ListNumber, list-numbers}
use Rattle.bookings.proofs.Accepted.{list-exact}

-- ---- one booking
module _ (cards shapes : ℕ) (bookings : List ℕ) (i : ℕ) (rest : Reading ℕ) where
  pub stored-card : cards ≤ stored_card_at bookings i
      → stored_rule cards shapes bookings i rest ≡ turned_down 32 (stored_card_index i)
  stored-card h = rw (le-leb cards (stored_card_at bookings i) h) refl

  module _ (c : stored_card_at bookings i < cards) where
    pub stored-shape : shapes ≤ stored_shape_at bookings i
        → stored_rule cards shapes bookings i rest ≡ turned_down 33 (stored_shape_index i)
    stored-shape h = rw (lt-leb cards (stored_card_at bookings i) c, le-leb shapes (stored_shape_at bookings i) h) refl

    pub stored-passed : stored_shape_at bookings i < shapes → stored_rule cards shapes bookings i rest ≡ rest
    stored-passed t = rw (lt-leb cards (stored_card_at bookings i) c, lt-leb shapes (stored_shape_at bookings i) t)
        refl

-- ---- the list
-- A stored list is in order: its count is not too great, it has as many bookings, and each is of a card and a shape
-- below the counts.
pub record StoredFine (cards shapes : ℕ) (bookings : List ℕ) : Type 0 where
  pub sized : ListOf 2 bookings (get_or bookings 0 0)
  pub card-in : (i : ℕ) → i < get_or bookings 0 0 → stored_card_at bookings i < cards
  pub shape-in : (i : ℕ) → i < get_or bookings 0 0 → stored_shape_at bookings i < shapes

module _ (cards shapes : ℕ) (bookings : List ℕ) where
  -- booking i is in order
  abbrev In : ℕ → Type 0
  In i = (stored_card_at bookings i < cards) × (stored_shape_at bookings i < shapes)

  in_order : (i : ℕ) (rest : Reading ℕ) (count : ℕ) → stored_rule cards shapes bookings i rest ≡ accepted count
      → In i × (rest ≡ accepted count)
  in_order i rest count e =
      let (c, e1) = passed 32 _ (leb cards (stored_card_at bookings i)) _ count e in
      let (t, e2) = passed 33 _ (leb shapes (stored_shape_at bookings i)) _ count e1 in
      ((leb-false cards (stored_card_at bookings i) c, leb-false shapes (stored_shape_at bookings i) t), e2)

  pub stored_exact : (count : ℕ) → (read_stored cards shapes bookings ≡ accepted count)
      ↔ (StoredFine cards shapes bookings × (count ≡ get_or bookings 0 0))
  stored_exact count =
      let exact = list-exact (stored_rule cards shapes bookings) In in_order
      (λ i rest (c, t). stored-passed cards shapes bookings i rest c t) 2 bookings count in (
        λ read.
            let (sized, each, is) = exact.0 read in
            (record { sized = sized; card-in = λ i l. (each i l).0; shape-in = λ i l. (each i l).1 }, is),
        λ (fine, is). exact.1 (fine.sized, (λ i l. (fine.card-in i l, fine.shape-in i l)), is),
      )

module _ (cards shapes : ℕ) (bookings : List ℕ) (count : ℕ)
    (read : read_stored cards shapes bookings ≡ accepted count) where
  pub stored-count : count ≡ get_or bookings 0 0
  stored-count = ((stored_exact cards shapes bookings count).0 read).1

  pub stored-sized : ListOf 2 bookings count
  stored-sized =
      let (fine, is) = (stored_exact cards shapes bookings count).0 read in
      subst (ListOf 2 bookings) (sym is) fine.sized

  pub stored-each : (i : ℕ) → i < count → (stored_card_at bookings i < cards) × (stored_shape_at bookings i < shapes)
  stored-each i l =
      let (fine, is) = (stored_exact cards shapes bookings count).0 read in
      (fine.card-in i (omega (arith, is)), fine.shape-in i (omega (arith, is)))

pub stored-booked : (bookings : List ℕ) (n t : ℕ)
    → (booked_before (stored_at bookings) (record { desk = 0; card = n; shape = t }) (get_or bookings 0 0) ≡ true)
    ↔ StoredBooked bookings n t
stored-booked bookings n t =
    let exact = before-exact (stored_at bookings) (record { desk = 0; card = n; shape = t }) (get_or bookings 0 0) in (
      λ e. let (j, l, is) = exact.0 e in
          record {
            booking = j;
            listed = l;
            card = ap (λ (b : Booking). b.card) is;
            shape = ap (λ (b : Booking). b.shape) is;
          },
      λ b. exact.1 (b.booking, b.listed, booking-same refl b.card b.shape),
    )

-- ---- the numbers
-- The numbers that a stored list is refused with.
abbrev pub StoredNumber : ℕ → Type 0
StoredNumber = ListNumber

pub stored-numbers : (cards shapes : ℕ) (bookings : List ℕ)
    → Numbered StoredNumber (read_stored cards shapes bookings)
stored-numbers cards shapes bookings =
    list-numbers StoredNumber (λ n h. h) (stored_rule cards shapes bookings) (λ i rest h.
    refuse-numbered StoredNumber 32 (stored_card_index i) (leb cards (stored_card_at bookings i)) _
    (omega arith, omega arith)
    (refuse-numbered StoredNumber 33 (stored_shape_index i) (leb shapes (stored_shape_at bookings i)) _
    (omega arith, omega arith) h)) 2 bookings

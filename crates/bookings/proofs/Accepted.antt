-- The bookings of a list that is read.
--   words-few, words-in             a list of so many bookings has not too many words, and those of each are there
--   list-exact                      any list is read exactly if it has its words and passes the rule for each booking
--   Fine, listed-exact              a list of both desks is read exactly if all of it is in order
--   bookings-count, bookings-sized  the count that is read is the list's first word, and the list has that many
--   bookings-each, bookings-in      each is of a card and a shape below the counts
--   repeat-in                       65 is never of a booking that 66, 32 or 33 would be of: its first one is refused
--                                   before
-- Assumes nothing.
use Prim.Native.Nat.{ℕ, zero, suc, ◌+◌, ◌*◌, ◌≤◌, ◌<◌}
use mathlib.Core.Path.{◌≡◌, refl, sym, ap, subst, subst₂, ◌∙◌}
use mathlib.Core.Logic.{◌↔◌, ⊎_elim}
use mathlib.Core.Bool.{true, false, not}
use mathlib.Core.List.{List}
use native.Mathlib.Omega.{arith}
use native.Mathlib.Nat.{eq-or-lt_of_le, mul-le-mul_left}
use lib.ListN.{length, get_or}
use lib.Dec.{ltb, leb, eqb}
use borrow.Author.Tests.{leb-false, ltb-false, eqb-true, not-false}
use Rattle.words.specs.Limits.{max_bookings}
use Rattle.words.specs.Reading.{Reading, accepted}
use Rattle.words.proofs.Readings.{accepted-same, passed}
use Rattle.bookings.specs.Bookings.{Booking, read_each, read_list, desk_at, card_at, shape_at, booking_at, repeated}
use Rattle.bookings.specs.Bookings.{booking_rule, read_bookings, Booked}
use Rattle.bookings.specs.Steps.{ListOf, WordsIn}
use Rattle.bookings.proofs.Repeats.{repeated-exact}
use Rattle.bookings.proofs.Reading.{list-listed, rule-passed}

-- So many bookings have not too many words.
pub words-few : {width count : ℕ} → width ≤ 3 → count ≤ max_bookings → width * count ≤ 3 * max_bookings
words-few {width} {count} thin few = omega (arith, mul-le-mul_left width few)

-- In a list of so many bookings the words of each are there.
pub words-in : {width count i : ℕ} {bookings : List ℕ} → ListOf width bookings count → i < count
    → WordsIn width bookings i
words-in {width} {count} {i} sized l = record {
  few = omega (arith, sized.few);
  inside = omega (arith, sized.size, mul-le-mul_left width l);
}

-- ---- any list
-- `In i` says that booking i passes the rule.
module _ (rule : ℕ → Reading ℕ → Reading ℕ) (In : ℕ → Type 0)
    (in_order : (i : ℕ) (rest : Reading ℕ) (count : ℕ) → rule i rest ≡ accepted count
    → In i × (rest ≡ accepted count)) (passes : (i : ℕ) (rest : Reading ℕ) → In i → rule i rest ≡ rest) where
  each-passed : (n i : ℕ) (done : Reading ℕ) (count : ℕ) → read_each rule n i done ≡ accepted count
      → (done ≡ accepted count) × ((k : ℕ) → i ≤ k → k < i + n → In k)
  unfolding read_each
  each-passed zero i done count e = (e, λ k a b. absurd (omega arith))
  each-passed (suc n) i done count e =
      let (here, rest) = in_order i _ count e in
      let (d, later) = each-passed n (suc i) done count rest in
      (d, λ k a b. ⊎_elim (λ q. subst In q here) (λ l. later k l (omega arith)) (eq-or-lt_of_le a))

  all_pass : (n i : ℕ) (done : Reading ℕ) → ((k : ℕ) → i ≤ k → k < i + n → In k) → read_each rule n i done ≡ done
  unfolding read_each
  all_pass zero i done each = refl
  all_pass (suc n) i done each =
      passes i _ (each i (omega arith) (omega arith))
      ∙ all_pass n (suc i) done (λ k a b. each k (omega arith) (omega arith))

  pub list-exact : (width : ℕ) (bookings : List ℕ) (count : ℕ) → (read_list width rule bookings ≡ accepted count)
      ↔ (ListOf width bookings (get_or bookings 0 0) × ((i : ℕ) → i < get_or bookings 0 0 → In i)
      × (count ≡ get_or bookings 0 0))
  unfolding read_list
  list-exact width bookings count = (
    λ read.
        let (full, e1) = passed 30 0 (eqb (length bookings) 0) _ count read in
        let (few, e2) = passed 31 0 (ltb max_bookings (get_or bookings 0 0)) _ count e1 in
        let (size, e3) = passed 30 0 (not (eqb (length bookings) (1 + width * get_or bookings 0 0))) _ count e2 in
        let (d, each) = each-passed (get_or bookings 0 0) 0 _ count e3 in (
          record {
            few = ltb-false max_bookings (get_or bookings 0 0) few;
            size = eqb-true (length bookings) (1 + width * get_or bookings 0 0) (not-false _ size);
          },
          (λ k l. each k (omega arith) (omega arith)),
          sym (accepted-same d),
        ),
    λ (sized, each, is).
        sym (list-listed width rule bookings sized)
        ∙ all_pass (get_or bookings 0 0) 0 _ (λ k a b. each k (omega arith)) ∙ ap accepted (sym is),
  )

-- ---- a list of both desks
-- It is in order: its count is not too great, it has as many bookings, each is of one of the two desks and of a card
-- and a shape below the counts, and none is a repeat.
pub record Fine (cards shapes : ℕ) (bookings : List ℕ) : Type 0 where
  pub sized : ListOf 3 bookings (get_or bookings 0 0)
  pub desk-in : (i : ℕ) → i < get_or bookings 0 0 → desk_at bookings i ≤ 1
  pub card-in : (i : ℕ) → i < get_or bookings 0 0 → card_at bookings i < cards
  pub shape-in : (i : ℕ) → i < get_or bookings 0 0 → shape_at bookings i < shapes
  pub once : (i : ℕ) → i < get_or bookings 0 0 → repeated (booking_at bookings) i ≡ false

module _ (cards shapes : ℕ) (bookings : List ℕ) where
  -- booking i is in order
  abbrev In : ℕ → Type 0
  In i = (desk_at bookings i ≤ 1) × (card_at bookings i < cards) × (shape_at bookings i < shapes)
      × (repeated (booking_at bookings) i ≡ false)

  in_order : (i : ℕ) (rest : Reading ℕ) (count : ℕ) → booking_rule cards shapes bookings i rest ≡ accepted count
      → In i × (rest ≡ accepted count)
  in_order i rest count e =
      let (d, e1) = passed 66 _ (ltb 1 (desk_at bookings i)) _ count e in
      let (c, e2) = passed 32 _ (leb cards (card_at bookings i)) _ count e1 in
      let (t, e3) = passed 33 _ (leb shapes (shape_at bookings i)) _ count e2 in
      let (new, e4) = passed 65 _ (repeated (booking_at bookings) i) _ count e3 in (
        (
          ltb-false 1 (desk_at bookings i) d,
          leb-false cards (card_at bookings i) c,
          leb-false shapes (shape_at bookings i) t,
          new,
        ),
        e4,
      )

  passes : (i : ℕ) (rest : Reading ℕ) → In i → booking_rule cards shapes bookings i rest ≡ rest
  passes i rest (d, c, t, new) = rule-passed cards shapes bookings i rest d c t new

  pub listed-exact : (count : ℕ) → (read_bookings cards shapes bookings ≡ accepted count)
      ↔ (Fine cards shapes bookings × (count ≡ get_or bookings 0 0))
  listed-exact count =
      let exact = list-exact (booking_rule cards shapes bookings) In in_order passes 3 bookings count in (
        λ read.
            let (sized, each, is) = exact.0 read in (
              record {
                sized = sized;
                desk-in = λ i l. (each i l).0;
                card-in = λ i l. (each i l).1;
                shape-in = λ i l. (each i l).2;
                once = λ i l. (each i l).3;
              },
              is,
            ),
        λ (fine, is). exact.1 (
          fine.sized,
          (λ i l. (fine.desk-in i l, fine.card-in i l, fine.shape-in i l, fine.once i l)),
          is,
        ),
      )

module _ (cards shapes : ℕ) (bookings : List ℕ) (count : ℕ)
    (read : read_bookings cards shapes bookings ≡ accepted count) where
  pub bookings-count : count ≡ get_or bookings 0 0
  bookings-count = ((listed-exact cards shapes bookings count).0 read).1

  pub bookings-sized : ListOf 3 bookings count
  bookings-sized =
      let (fine, is) = (listed-exact cards shapes bookings count).0 read in
      subst (ListOf 3 bookings) (sym is) fine.sized

  pub bookings-each : (i : ℕ) → i < count → (card_at bookings i < cards) × (shape_at bookings i < shapes)
  bookings-each i l =
      let (fine, is) = (listed-exact cards shapes bookings count).0 read in
      (fine.card-in i (omega (arith, is)), fine.shape-in i (omega (arith, is)))

  pub bookings-in : {desk : ℕ} (n t : ℕ) → Booked bookings desk n t → (n < cards) × (t < shapes)
  bookings-in n t b =
      subst₂ (λ (m u : ℕ). (m < cards) × (u < shapes)) b.card b.shape
      (bookings-each b.booking (omega (arith, b.listed, bookings-count)))

-- A booking is tested before its repeat, so the repeat's own desk, card and shape are in order.
pub repeat-in : (cards shapes : ℕ) (bookings : List ℕ) (i : ℕ)
    → ((j : ℕ) → j < i → (desk_at bookings j ≤ 1) × (card_at bookings j < cards) × (shape_at bookings j < shapes))
    → repeated (booking_at bookings) i ≡ true
    → (desk_at bookings i ≤ 1) × (card_at bookings i < cards) × (shape_at bookings i < shapes)
repeat-in cards shapes bookings i before again =
    let (j, below, is) = (repeated-exact (booking_at bookings) i).0 again in
    subst (λ (b : Booking). (b.desk ≤ 1) × (b.card < cards) × (b.shape < shapes)) is (before j below)

-- What reading a list of bookings finds: a law for each answer, and the numbers of its refusals.
--   list-empty, list-many, list-other   the refusals of any list, 30, 31 and 30
--   list-listed                         its bookings one by one
--   counted-listed                      these, by what looking at its count and its length found
--   each_next, each-end                 the next booking, and none left
--   rule-desk, rule-card, rule-shape, rule-repeat, rule-passed   one booking: 66, 32, 33, 65, or none of these
--   ListNumber, list-numbers            30 to 33, with which any list is refused, beside what the rule refuses with
--   BookingNumber, bookings-numbers     a list of both desks also with 65 and 66
-- Assumes nothing.
use Prim.Native.Nat.{ℕ, zero, suc, ◌+◌, ◌-◌, ◌*◌, ◌≤◌, ◌<◌}
use mathlib.Core.Path.{◌≡◌, refl, ap, subst, ◌∙◌}
use mathlib.Core.Logic.{◌⊎◌, inl, inr}
use mathlib.Core.Bool.{true, false, not}
use mathlib.Core.List.{List}
use native.Mathlib.Omega.{arith}
use native.Mathlib.Numerals.{add-one}
use lib.ListN.{length, get_or}
use lib.Dec.{ltb, leb, eqb}
use Rattle.std.specs.Prelude.{Ok}
use borrow.Author.Tests.{le-leb, lt-leb, lt-ltb, le-ltb, eq-eqb, ne_eqb}
use Rattle.words.specs.Limits.{max_bookings}
use Rattle.words.specs.Reading.{Reading, accepted, turned_down}
use Rattle.words.proofs.Readings.{Numbered, refuse-numbered}
use Rattle.bookings.specs.Bookings.{read_each, read_list, desk_index, card_index, shape_index, desk_at, card_at}
use Rattle.bookings.specs.Bookings.{shape_at}
use Rattle.bookings.specs.Bookings.{booking_at, repeated, booking_rule, read_bookings}
use Rattle.bookings.specs.Steps.{ListOf, CountRead}

-- ---- any list
module _ (width : ℕ) (rule : ℕ → Reading ℕ → Reading ℕ) (bookings : List ℕ) where
  pub list-empty : length bookings ≡ 0 → read_list width rule bookings ≡ turned_down 30 0
  unfolding read_list
  list-empty e = rw (eq-eqb (length bookings) 0 e) refl

  pub list-many : (length bookings ≡ 0 → ⊥) → max_bookings < get_or bookings 0 0
      → read_list width rule bookings ≡ turned_down 31 0
  unfolding read_list
  list-many some many = rw (ne_eqb (length bookings) 0 some, lt-ltb max_bookings (get_or bookings 0 0) many) refl

  pub list-other : (length bookings ≡ 0 → ⊥) → get_or bookings 0 0 ≤ max_bookings
      → (length bookings ≡ 1 + width * get_or bookings 0 0 → ⊥) → read_list width rule bookings ≡ turned_down 30 0
  unfolding read_list
  list-other some few other = rw (
    ne_eqb (length bookings) 0 some,
    le-ltb max_bookings (get_or bookings 0 0) few,
    ne_eqb (length bookings) (1 + width * get_or bookings 0 0) other,
  ) refl

  pub list-listed : ListOf width bookings (get_or bookings 0 0)
      → read_each rule (get_or bookings 0 0) 0 (accepted (get_or bookings 0 0)) ≡ read_list width rule bookings
  unfolding read_list
  list-listed sized = rw (
    ne_eqb (length bookings) 0 (λ e. absurd (omega (arith, sized.size))),
    le-ltb max_bookings (get_or bookings 0 0) sized.few,
    eq-eqb (length bookings) (1 + width * get_or bookings 0 0) sized.size,
  ) refl

-- By what looking at its count and its length found: its bookings are read.
pub counted-listed : (width : ℕ) (bookings : List ℕ) (rule : ℕ → Reading ℕ → Reading ℕ) {count : ℕ}
    {reading : Reading ℕ} → CountRead width bookings (Ok count) → reading ≡ read_each rule count 0 (accepted count)
    → reading ≡ read_list width rule bookings
counted-listed width bookings rule (sized, first) each =
    each ∙ ap (λ (n : ℕ). read_each rule n 0 (accepted n)) first
    ∙ list-listed width rule bookings (subst (ListOf width bookings) first sized)

-- The bookings from booking i on.
module _ (rule : ℕ → Reading ℕ → Reading ℕ) (count i : ℕ) (done : Reading ℕ) where
  pub each_next : i < count → read_each rule (count - i) i done
      ≡ rule i (read_each rule (count - (i + 1)) (i + 1) done)
  unfolding read_each
  each_next l =
      let e : count - i ≡ suc (count - (i + 1)) = omega arith in
      rw (e, add-one i) refl

  pub each-end : count ≤ i → read_each rule (count - i) i done ≡ done
  unfolding read_each
  each-end l = let e : count - i ≡ 0 = omega arith in rw e refl

-- ---- one booking
module _ (cards shapes : ℕ) (bookings : List ℕ) (i : ℕ) (rest : Reading ℕ) where
  pub rule-desk : 1 < desk_at bookings i → booking_rule cards shapes bookings i rest ≡ turned_down 66 (desk_index i)
  rule-desk h = rw (lt-ltb 1 (desk_at bookings i) h) refl

  module _ (ours : desk_at bookings i ≤ 1) where
    pub rule-card : cards ≤ card_at bookings i → booking_rule cards shapes bookings i rest ≡ turned_down 32
        (card_index i)
    rule-card h = rw (le-ltb 1 (desk_at bookings i) ours, le-leb cards (card_at bookings i) h) refl

    pub rule-shape : card_at bookings i < cards → shapes ≤ shape_at bookings i
        → booking_rule cards shapes bookings i rest ≡ turned_down 33 (shape_index i)
    rule-shape c h = rw (
      le-ltb 1 (desk_at bookings i) ours,
      lt-leb cards (card_at bookings i) c,
      le-leb shapes (shape_at bookings i) h,
    ) refl

    module _ (c : card_at bookings i < cards) (t : shape_at bookings i < shapes) where
      pub rule-repeat : repeated (booking_at bookings) i ≡ true
          → booking_rule cards shapes bookings i rest ≡ turned_down 65 (card_index i)
      rule-repeat again = rw (
        le-ltb 1 (desk_at bookings i) ours,
        lt-leb cards (card_at bookings i) c,
        lt-leb shapes (shape_at bookings i) t,
        again,
      ) refl

      pub rule-passed : repeated (booking_at bookings) i ≡ false → booking_rule cards shapes bookings i rest ≡ rest
      rule-passed new = rw (
        le-ltb 1 (desk_at bookings i) ours,
        lt-leb cards (card_at bookings i) c,
        lt-leb shapes (shape_at bookings i) t,
        new,
      ) refl

-- ---- the numbers
-- The numbers that any list is refused with, and those that a list of both desks is.
abbrev pub ListNumber : ℕ → Type 0
ListNumber number = (30 ≤ number) × (number ≤ 33)

abbrev pub BookingNumber : ℕ → Type 0
BookingNumber number = ListNumber number ⊎ ((65 ≤ number) × (number ≤ 66))

module _ (Number : ℕ → Type 0) (low : (n : ℕ) → ListNumber n → Number n) (rule : ℕ → Reading ℕ → Reading ℕ)
    (each : (i : ℕ) (rest : Reading ℕ) → Numbered Number rest → Numbered Number (rule i rest)) where
  each-numbers : (n i : ℕ) (done : Reading ℕ) → Numbered Number done → Numbered Number (read_each rule n i done)
  unfolding read_each
  each-numbers zero i done h = h
  each-numbers (suc n) i done h = each i _ (each-numbers n (suc i) done h)

  pub list-numbers : (width : ℕ) (bookings : List ℕ) → Numbered Number (read_list width rule bookings)
  unfolding read_list
  list-numbers width bookings =
      let size = eqb (length bookings) (1 + width * get_or bookings 0 0) in
      let empty : Number 30 = low 30 (omega arith, omega arith) in
      refuse-numbered Number 30 0 (eqb (length bookings) 0) _ empty
      (refuse-numbered Number 31 0 (ltb max_bookings (get_or bookings 0 0)) _ (low 31 (omega arith, omega arith))
      (refuse-numbered Number 30 0 (not size) _ empty
      (each-numbers (get_or bookings 0 0) 0 (accepted (get_or bookings 0 0)) tt)))

pub bookings-numbers : (cards shapes : ℕ) (bookings : List ℕ)
    → Numbered BookingNumber (read_bookings cards shapes bookings)
bookings-numbers cards shapes bookings =
    list-numbers BookingNumber (λ n h. inl h) (booking_rule cards shapes bookings) (λ i rest h.
    refuse-numbered BookingNumber 66 (desk_index i) (ltb 1 (desk_at bookings i)) _ (inr (omega arith, omega arith))
    (refuse-numbered BookingNumber 32 (card_index i) (leb cards (card_at bookings i)) _
    (inl (omega arith, omega arith))
    (refuse-numbered BookingNumber 33 (shape_index i) (leb shapes (shape_at bookings i)) _
    (inl (omega arith, omega arith))
    (refuse-numbered BookingNumber 65 (card_index i) (repeated (booking_at bookings) i) _
    (inr (omega arith, omega arith)) h)))) 3 bookings

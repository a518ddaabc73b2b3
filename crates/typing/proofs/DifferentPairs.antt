-- The bookings that are no repeats are as many as the pairs that are booked.
--   different-tally   of the first bookings of a stored list
--   different-pairs   of a list that is read: a set of just the booked pairs has so many
-- Assumes nothing.
use Prim.Native.Nat.{ℕ, zero, suc, ◌+◌, ◌*◌, ◌/◌, ◌%◌, ◌<◌}
use mathlib.Core.Path.{◌≡◌, refl, sym, ap, ◌∙◌}
use mathlib.Core.Logic.{◌↔◌, ⊎_elim}
use mathlib.Core.Bool.{Bool, true, false}
use mathlib.Core.List.{List}
use native.Mathlib.Omega.{arith}
use lib.ListN.{get_or}
use Rattle.words.proofs.Bools.{true-or-false, bools-equal, is_false, never_both}
use Rattle.words.proofs.Places.{place_in, card-in, shape-in, card-of, shape_of, place_of}
use Rattle.board.specs.Grid.{tally}
use Rattle.board.proofs.Tally.{tally-none, tally-ext, tally-more}
use Rattle.sheet.specs.Sheet.{Sheet, size}
use Rattle.bookings.specs.Bookings.{Booking, booked_before, repeated}
use Rattle.stored.specs.Stored.{stored_card_at, stored_shape_at, stored_at, StoredBooked}
use Rattle.stored.specs.Tidied.{different}
use Rattle.bookings.proofs.Repeats.{booking-same, before-exact, before-other, repeated-told}
use Rattle.stored.proofs.StoredLists.{stored-booked}
use Rattle.stored.proofs.Tidied.{different-again, different-new, before-again}
use Rattle.typing.specs.Typing.{Pairs, Has}

module _ (cards shapes : ℕ) (one-shape : 0 < shapes) (bookings : List ℕ) where
  -- the booking of a pair
  abbrev of : ℕ → ℕ → Booking
  of n t = record { desk = 0; card = n; shape = t }

  -- the pair at a place is one of the first k bookings
  abbrev booked_at : ℕ → ℕ → Bool
  booked_at k p = booked_before (stored_at bookings) (of (p / shapes) (p % shapes)) k

  -- the place of booking k
  abbrev place_at : ℕ → ℕ
  place_at k = stored_card_at bookings k * shapes + stored_shape_at bookings k

  module _ (k : ℕ) (card-here : stored_card_at bookings k < cards) (shape-here : stored_shape_at bookings k <
      shapes) where
    -- booking k is that of the pair at its place
    here : of (place_at k / shapes) (place_at k % shapes) ≡ stored_at bookings k
    here =
        booking-same refl
        (card-of shapes one-shape (stored_card_at bookings k) (stored_shape_at bookings k) shape-here)
        (shape_of shapes one-shape (stored_card_at bookings k) (stored_shape_at bookings k) shape-here)

    -- a booking that is no repeat books one pair more
    one_more : repeated (stored_at bookings) k ≡ false
        → tally (booked_at (suc k)) (cards * shapes) ≡ suc (tally (booked_at k) (cards * shapes))
    one_more new = tally-more (booked_at k) (booked_at (suc k)) (cards * shapes) (place_at k)
        (place_in cards shapes (stored_card_at bookings k) (stored_shape_at bookings k) card-here shape-here)
        (sym (repeated-told (stored_at bookings) k _ here) ∙ new)
        ((before-exact (stored_at bookings) _ (suc k)).1 (k, omega arith, sym here))
        (λ p l other. sym (before-other (stored_at bookings) (of (p / shapes) (p % shapes)) k (λ e.
        other (sym (place_of shapes one-shape p)
        ∙ sym (ap (λ (b : Booking). b.card * shapes + b.shape) e)))))

  different-tally : (k : ℕ)
      → ((i : ℕ) → i < k → (stored_card_at bookings i < cards) × (stored_shape_at bookings i < shapes))
      → different (stored_at bookings) k ≡ tally (booked_at k) (cards * shapes)
  unfolding different booked_before
  different-tally zero each = sym (tally-none (booked_at 0) (cards * shapes) (λ p l. refl))
  different-tally (suc k) each =
      let before = different-tally k (λ i l. each i (omega arith)) in
      let (card-here, shape-here) = each k (omega arith) in
      ⊎_elim
      (λ (again : repeated (stored_at bookings) k ≡ true).
      different-again (stored_at bookings) k again ∙ before
      ∙ tally-ext (booked_at k) (booked_at (suc k)) (cards * shapes)
      (λ p l. sym (before-again (stored_at bookings) (of (p / shapes) (p % shapes)) k again)))
      (λ (new : repeated (stored_at bookings) k ≡ false).
      different-new (stored_at bookings) k new ∙ ap suc before ∙ sym (one_more k card-here shape-here new))
      (true-or-false (repeated (stored_at bookings) k))

pub different-pairs : (s : Sheet) (bookings : List ℕ) → 0 < s.shapes
    → ((i : ℕ) → i < get_or bookings 0 0 → (stored_card_at bookings i < s.cards) × (stored_shape_at bookings i <
    s.shapes))
    → (X : Pairs) → ((n t : ℕ) → n < s.cards → t < s.shapes → Has s X n t ↔ StoredBooked bookings n t)
    → different (stored_at bookings) (get_or bookings 0 0) ≡ tally X (size s)
different-pairs s bookings one-shape each X just =
    different-tally s.cards s.shapes one-shape bookings (get_or bookings 0 0) each
    ∙ tally-ext (booked_at s.cards s.shapes one-shape bookings (get_or bookings 0 0)) X (size s) (λ p l.
    let n = p / s.shapes in
    let t = p % s.shapes in
    let here : n * s.shapes + t ≡ p = place_of s.shapes one-shape p in
    let exact = stored-booked bookings n t in
    let has = just n t (card-in s.shapes one-shape s.cards p l) (shape-in s.shapes one-shape p) in
    bools-equal
    (λ b. ap X (sym here) ∙ has.1 (exact.0 b))
    (λ none. is_false (λ x. never_both (exact.1 (has.0 (ap X here ∙ x))) none)))

-- The pairs of the bookings, turned off one after another.
--   filled         every byte of a grid that is filled
--   booked-in      a booked pair has a place in the grid
--   marked-none    no booking: every pair is on
--   marked_more, marked_other   one booking more, the desk's or not
-- Assumes nothing.
use mathlib.Core.Path.{◌≡◌, sym, ap, ◌∙◌, subst}
use mathlib.Core.Logic.{⊎_elim}
use mathlib.Core.List.{List}
use mathlib.Core.Bool.{false}
use Prim.Native.Nat.{ℕ, ◌+◌, ◌*◌, ◌<◌}
use native.Mathlib.Nat.{not-suc-le-zero}
use native.Mathlib.Numerals.{add-one}
use native.Mathlib.Omega.{arith}
use lib.ListN.{length, get_or, set, length-set, replicate, get_or-replicate, length-replicate}
use Rattle.board.specs.Grid.{on}
use Rattle.words.proofs.Bools.{never_both, eq-or-ne, last-or-below}
use Rattle.board.proofs.Grids.{on-yes, on-set-same, on-set-other}
use Rattle.words.proofs.Places.{place_in}
use Rattle.bookings.specs.Bookings.{desk_at, card_at, shape_at}
use Rattle.bookings.specs.Steps.{BookingsIn}
use Rattle.closure.specs.Closing.{BookedAt, Marked}

pub filled : (grid : List ℕ) (n value : ℕ) → grid ≡ replicate n value
    → (p : ℕ) → p < length grid → get_or grid p 0 ≡ value
filled grid n value e p l = ap (λ (g : List ℕ). get_or g p 0) e
    ∙ get_or-replicate n p value 0 (omega (arith, ap length e, length-replicate n value))

pub booked-in : {bookings : List ℕ} {desk cards shapes k p : ℕ}
    → BookingsIn bookings cards shapes k → BookedAt bookings desk shapes k p → p < cards * shapes
booked-in {bookings} {desk} {cards} {shapes} {k} {p} inside b =
    let (card, shape) = inside b.booking b.listed in
    subst (λ (x : ℕ). x < cards * shapes) (sym b.at)
    (place_in cards shapes (card_at bookings b.booking) (shape_at bookings b.booking) card shape)

pub marked-none : (bookings : List ℕ) (desk shapes : ℕ) (grid : List ℕ)
    → ((p : ℕ) → p < length grid → get_or grid p 0 ≡ 1) → Marked bookings desk shapes 0 grid
marked-none bookings desk shapes grid ones = record {
  only = λ p l off. never_both (on-yes grid p (ones p l)) off;
  each = λ p b. absurd (not-suc-le-zero b.listed);
}

module _ {bookings : List ℕ} {desk shapes k : ℕ} {grid : List ℕ} (q : ℕ) (m : Marked bookings desk shapes k grid)
    (ours : desk_at bookings k ≡ desk) (here : q ≡ card_at bookings k * shapes + shape_at bookings k)
    (l : q < length grid) where
  pub marked_more : Marked bookings desk shapes (k + 1) (set grid q 0)
  marked_more = record {
    only = λ p lp off. ⊎_elim
        (λ (e : p ≡ q). record { booking = k; listed = omega arith; ours = ours; at = e ∙ here })
        (λ ne. let b = m.only p (omega (arith, length-set grid q 0)) (sym (on-set-other grid q p ne) ∙ off) in
        record { booking = b.booking; listed = omega (arith, b.listed); ours = b.ours; at = b.at })
        (eq-or-ne p q);
    each = λ p b. ⊎_elim
        (λ (e : b.booking ≡ k). off-here p
        (b.at ∙ subst (λ (j : ℕ). card_at bookings j * shapes + shape_at bookings j ≡ q) (sym e) (sym here)))
        (λ below. ⊎_elim (off-here p)
        (λ ne. on-set-other grid q p ne
        ∙ m.each p (record { booking = b.booking; listed = below; ours = b.ours; at = b.at })) (eq-or-ne p q))
        (last-or-below (rw add-one at b.listed));
  }
    where
      off-here : (p : ℕ) → p ≡ q → on (set grid q 0) p ≡ false
      off-here p e = subst (λ (x : ℕ). on (set grid q 0) x ≡ false) (sym e) (on-set-same grid q l)

-- One booking more that is the other desk's changes nothing.
pub marked_other : {bookings : List ℕ} {desk shapes k : ℕ} {grid : List ℕ} → Marked bookings desk shapes k grid
    → (desk_at bookings k ≡ desk → ⊥) → Marked bookings desk shapes (k + 1) grid
marked_other {bookings} {desk} m other = record {
  only = λ p lp off. let b = m.only p lp off in
      record { booking = b.booking; listed = omega (arith, b.listed); ours = b.ours; at = b.at };
  each = λ p b. ⊎_elim
      (λ e. absurd (other (subst (λ (j : ℕ). desk_at bookings j ≡ desk) e b.ours)))
      (λ below. m.each p (record { booking = b.booking; listed = below; ours = b.ours; at = b.at }))
      (last-or-below (rw add-one at b.listed));
}

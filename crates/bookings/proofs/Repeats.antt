-- Bookings that stand before, and looking one up along the chain of its card.
--   booking-same, same-is, is_same   bookings with the same words are the same, and what the test says
--   before_more, before-exact, before-other, before_same, repeated-exact   what the tests among the first bookings mean
--   repeated-told, told-repeated   the look-up of a booking tells whether it is a repeat
--   booked-exact                 a pair is booked by a desk exactly if one of all bookings is that
--   Looking          the look-up stands nth a booking of the card: what is below it decides
--   look-start, look-found, look-next, look_none   it starts, finds the booking, goes on, and ends
--   entered-again, entered-new   what it leaves: the chains as they were, or with a booking more
-- Assumes nothing.
use Prim.Native.Nat.{ℕ, zero, suc, ◌+◌, ◌<◌}
use mathlib.Core.Path.{◌≡◌, refl, sym, ap, subst, ◌∙◌}
use mathlib.Core.Logic.{◌↔◌, ⊎_elim}
use mathlib.Core.Bool.{Bool, true, false, ◌||◌}
use mathlib.Core.List.{List}
use native.Mathlib.Omega.{arith}
use native.Mathlib.Numerals.{add-one}
use lib.ListN.{length, get_or, set, length-set}
use lib.Dec.{eqb}
use borrow.Author.Tests.{eqb-true, eq-eqb}
use Rattle.words.specs.Chain.{last_at, Chained, Stepped}
use Rattle.words.proofs.Bools.{and_first, and_second, and_both, or_cases, or_left, or_right, false-true}
use Rattle.words.proofs.Bools.{eq-or-ne, last-or-below, bools-equal, is_false}
use Rattle.words.proofs.Chains.{last-here, last-other, chained_more, chained_same}
use Rattle.words.proofs.Chains.{Along, along-start, along-in, along-last, along-next}
use Rattle.bookings.specs.Bookings.{Booking, same, card_at, booking_at, booked_before, repeated, Booked}
use Rattle.bookings.specs.Steps.{LookupAsked, Entered}

-- ---- two bookings
pub booking-same : {a b : Booking} → a.desk ≡ b.desk → a.card ≡ b.card → a.shape ≡ b.shape → a ≡ b
booking-same {a} {b} d c s =
    ap (λ (x : ℕ). record { desk = x; card = a.card; shape = a.shape }) d
    ∙ ap (λ (x : ℕ). record { desk = b.desk; card = x; shape = a.shape }) c
    ∙ ap (λ (x : ℕ). record { desk = b.desk; card = b.card; shape = x }) s

same-is : (a b : Booking) → same a b ≡ true → a ≡ b
same-is a b e =
    let rest = and_second (eqb a.desk b.desk) _ e in
    booking-same
    (eqb-true a.desk b.desk (and_first (eqb a.desk b.desk) _ e))
    (eqb-true a.card b.card (and_first (eqb a.card b.card) _ rest))
    (eqb-true a.shape b.shape (and_second (eqb a.card b.card) _ rest))

is_same : (a b : Booking) → a ≡ b → same a b ≡ true
is_same a b e =
    and_both (eqb a.desk b.desk) _ (eq-eqb a.desk b.desk (ap (λ (x : Booking). x.desk) e))
    (and_both (eqb a.card b.card) _ (eq-eqb a.card b.card (ap (λ (x : Booking). x.card) e))
    (eq-eqb a.shape b.shape (ap (λ (x : Booking). x.shape) e)))

-- ---- among the first bookings
pub before_more : (nth : ℕ → Booking) (b : Booking) (k : ℕ)
    → booked_before nth b (suc k) ≡ (booked_before nth b k || same (nth k) b)
unfolding booked_before
before_more nth b k = refl

module _ (nth : ℕ → Booking) (b : Booking) where
  before-some : (k : ℕ) → booked_before nth b k ≡ true → (j : ℕ) × (j < k) × (nth j ≡ b)
  unfolding booked_before
  before-some zero e = false-true e
  before-some (suc k) e =
      ⊎_elim
      (λ h. let (j, l, is) = before-some k h in (j, omega arith, is))
      (λ h. (k, omega arith, same-is (nth k) b h))
      (or_cases (booked_before nth b k) (same (nth k) b) e)

  some-before : (k j : ℕ) → j < k → nth j ≡ b → booked_before nth b k ≡ true
  unfolding booked_before
  some-before zero j l is = absurd (omega arith)
  some-before (suc k) j l is =
      ⊎_elim
      (λ e. or_right (booked_before nth b k) (same (nth k) b)
      (is_same (nth k) b (subst (λ (i : ℕ). nth i ≡ b) e is)))
      (λ h. or_left (booked_before nth b k) (same (nth k) b) (some-before k j h is))
      (last-or-below l)

  pub before-exact : (k : ℕ) → (booked_before nth b k ≡ true) ↔ ((j : ℕ) × (j < k) × (nth j ≡ b))
  before-exact k = (before-some k, λ (j, l, is). some-before k j l is)

  -- one booking more that is another changes nothing
  pub before-other : (k : ℕ) → (nth k ≡ b → ⊥) → booked_before nth b (suc k) ≡ booked_before nth b k
  before-other k not-it = bools-equal
      (λ e. let (j, l, is) = before-some (suc k) e in
      ⊎_elim (λ q. absurd (not-it (subst (λ (i : ℕ). nth i ≡ b) q is))) (λ h. some-before k j h is) (last-or-below l))
      (λ e. is_false (λ h. let (j, l, is) = before-some k h in
      false-true (sym e ∙ some-before (suc k) j (omega arith) is)))

pub repeated-exact : (nth : ℕ → Booking) (i : ℕ)
    → (repeated nth i ≡ true) ↔ ((j : ℕ) × (j < i) × (nth j ≡ nth i))
unfolding repeated
repeated-exact nth i = before-exact nth (nth i) i

-- the look-up of a booking tells whether it is a repeat
pub repeated-told : (nth : ℕ → Booking) (i : ℕ) (b : Booking) → b ≡ nth i → repeated nth i ≡ booked_before nth b i
unfolding repeated
repeated-told nth i b e = rw e refl

pub told-repeated : (nth : ℕ → Booking) (i : ℕ) (b : Booking) (again : Bool) → b ≡ nth i
    → again ≡ booked_before nth b i → repeated nth i ≡ again
told-repeated nth i b again e told = repeated-told nth i b e ∙ sym told

pub booked-exact : (bookings : List ℕ) (d n t : ℕ)
    → (booked_before (booking_at bookings) (record { desk = d; card = n; shape = t }) (get_or bookings 0 0) ≡ true)
    ↔ Booked bookings d n t
booked-exact bookings d n t =
    let exact = before-exact (booking_at bookings) (record { desk = d; card = n; shape = t }) (get_or bookings 0 0)
    in (
      λ e. let (j, l, is) = exact.0 e in
          record {
            booking = j;
            listed = l;
            ours = ap (λ (b : Booking). b.desk) is;
            card = ap (λ (b : Booking). b.card) is;
            shape = ap (λ (b : Booking). b.shape) is;
          },
      λ b. exact.1 (b.booking, b.listed, booking-same b.ours b.card b.shape),
    )

pub before_same : (nth other : ℕ → Booking) (b : Booking) (k : ℕ) → ((j : ℕ) → j < k → nth j ≡ other j)
    → booked_before nth b k ≡ booked_before other b k
unfolding booked_before
before_same nth other b zero each = refl
before_same nth other b (suc k) each =
    rw (before_same nth other b k (λ j l. each j (omega arith)), each k (omega arith)) refl

-- ---- along a chain
-- The look-up of a booking stands before one of its card, or at the end if `at` is 0: those from there on that are
-- below k are others.
pub record Looking (bookings : List ℕ) (b : Booking) (k at : ℕ) (next : List ℕ) : Type 0 where
  pub chain : Along (card_at bookings) b.card k at next
  pub decides : booked_before (booking_at bookings) b at ≡ booked_before (booking_at bookings) b k

module _ (bookings : List ℕ) (b : Booking) where
  -- what is below the last booking of the card decides
  look_skip : (m : ℕ) → booked_before (booking_at bookings) b (last_at (card_at bookings) b.card m)
      ≡ booked_before (booking_at bookings) b m
  unfolding last_at
  look_skip zero = refl
  look_skip (suc m) =
      ⊎_elim
      (λ e. ap (booked_before (booking_at bookings) b) (last-here (card_at bookings) b.card m e))
      (λ ne. ap (booked_before (booking_at bookings) b) (last-other (card_at bookings) b.card m ne) ∙ look_skip m
      ∙ sym (before-other (booking_at bookings) b m (λ e. ne (ap (λ (x : Booking). x.card) e))))
      (eq-or-ne (card_at bookings m) b.card)

  pub look-start : {k : ℕ} {first next : List ℕ} → Chained (card_at bookings) first next k → b.card < length first
      → Looking bookings b k (get_or first b.card 0) next
  look-start {k} s h = record {
    chain = along-start s h;
    decides = ap (booked_before (booking_at bookings) b) (s.heads b.card h) ∙ look_skip k;
  }

module _ {bookings : List ℕ} {b : Booking} {k at : ℕ} {next : List ℕ} (w : Looking bookings b k at next) where
  pub look_none : at ≡ 0 → booked_before (booking_at bookings) b k ≡ false
  unfolding booked_before
  look_none e = sym w.decides ∙ rw e refl

  module _ {j later : ℕ} {left : List ℕ} (t : Stepped at next j later left) where
    pub look-found : booking_at bookings j ≡ b → booked_before (booking_at bookings) b k ≡ true
    look-found e = (before-exact (booking_at bookings) b k).1 (j, along-in w.chain t, e)

    pub look-next : (booking_at bookings j ≡ b → ⊥) → Looking bookings b k later left
    look-next other = record {
      chain = along-next w.chain t;
      decides = ap (booked_before (booking_at bookings) b) (along-last w.chain t) ∙ look_skip bookings b j
          ∙ sym (before-other (booking_at bookings) b j other)
          ∙ ap (booked_before (booking_at bookings) b) (sym (t.stood ∙ add-one j)) ∙ w.decides;
    }

-- ---- what the look-up leaves
module _ {bookings : List ℕ} {k : ℕ} {b : Booking} {first next : List ℕ}
    (asked : LookupAsked bookings k b.card first next) where
  pub entered-again : booked_before (booking_at bookings) b k ≡ true → Entered bookings k b first next first next true
  entered-again booked = record {
    told = sym booked;
    heads = refl;
    links = refl;
    stays = λ _. asked.chained;
    more = λ e. false-true (sym e);
  }

  pub entered-new : booked_before (booking_at bookings) b k ≡ false
      → Entered bookings k b first next (set first b.card (k + 1)) (set next k (get_or first b.card 0)) false
  entered-new new = record {
    told = sym new;
    heads = length-set first b.card (k + 1);
    links = length-set next k (get_or first b.card 0);
    stays = λ e. false-true e;
    more = λ _ key agrees here.
        chained_more key first next k b.card
        (chained_same (card_at bookings) key first next k (λ j l. sym (agrees j l)) asked.chained) (sym here)
        asked.card-in asked.room;
  }

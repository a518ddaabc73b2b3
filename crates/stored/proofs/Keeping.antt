-- Writing the first booking of each pair, one booking of the list after the other.
--   Keeping        what stands in the buffer before booking i, and how it is chained
--   keeping_start, keeping-again, keeping-new, keeping-end   the start, a repeat, a pair that is new, and the count
--   keeping-told   the look-up in the buffer tells whether booking i is a repeat
-- Assumes nothing.
use Prim.Native.Nat.{ℕ, ◌+◌, ◌≤◌, ◌<◌}
use mathlib.Core.Path.{◌≡◌, refl, sym, ap, subst, ◌∙◌}
use mathlib.Core.Bool.{Bool, true, false}
use mathlib.Core.List.{List, [], ◌∷◌, ◌++◌}
use native.Mathlib.Omega.{arith}
use lib.ListN.{length, get_or, set, length-set}
use lib.Seq.{get_or-set_same, get_or-set_other}
use Rattle.words.specs.Chain.{Chained}
use Rattle.words.specs.Wrote.{Wrote}
use Rattle.words.proofs.Chains.{chained-none}
use Rattle.words.proofs.Writing.{wrote_nothing, wrote-byte, wrote-append, wrote-same, wrote-head}
use Rattle.bookings.specs.Bookings.{Booking, desk_index, card_index, shape_index, card_at, booking_at, booked_before}
use Rattle.bookings.specs.Bookings.{repeated}
use Rattle.stored.specs.Stored.{stored_at}
use Rattle.stored.specs.Tidied.{different, words_of, firsts, tidied}
use Rattle.bookings.specs.Steps.{Entered}
use Rattle.bookings.proofs.Repeats.{repeated-told}
use Rattle.stored.proofs.Tidied.{firsts-again, firsts-new, written-before}

-- Before booking i the words of the first booking of each pair stand behind the buffer's first word, and these bookings
-- are chained by their cards.
pub record Keeping (nth : ℕ → Booking) (before out first next : List ℕ) (kept i : ℕ) : Type 0 where
  pub counted : kept ≡ different nth i
  pub wrote : Wrote before 1 (firsts nth i) out (desk_index kept)
  pub chained : Chained (card_at out) first next kept

pub keeping_start : (nth : ℕ → Booking) (before first next : List ℕ) → 1 ≤ length before
    → ((m : ℕ) → m < length first → get_or first m 0 ≡ 0) → Keeping nth before before first next 0 0
unfolding different firsts
keeping_start nth before first next some zeros = record {
  counted = refl;
  wrote = wrote_nothing before 1 some;
  chained = chained-none (card_at before) first next zeros;
}

-- Storing booking k leaves the cards of those before it.
module _ (list : List ℕ) (k : ℕ) (b : Booking) (room : shape_index k < length list) where
  -- with its desk, and with its card
  abbrev owned : List ℕ
  owned = set list (desk_index k) b.desk

  abbrev carded : List ℕ
  carded = set owned (card_index k) b.card

  abbrev stored_in : List ℕ
  stored_in = set carded (shape_index k) b.shape

  stored_other : (j : ℕ) → j < k → card_at stored_in j ≡ card_at list j
  unfolding card_at
  stored_other j l =
      get_or-set_other carded (shape_index k) (card_index j) b.shape 0 (λ e. absurd (omega (arith, e)))
      ∙ get_or-set_other owned (card_index k) (card_index j) b.card 0 (λ e. absurd (omega (arith, e)))
      ∙ get_or-set_other list (desk_index k) (card_index j) b.desk 0 (λ e. absurd (omega (arith, e)))

  stored_here : card_at stored_in k ≡ b.card
  unfolding card_at
  stored_here =
      get_or-set_other carded (shape_index k) (card_index k) b.shape 0 (λ e. absurd (omega (arith, e)))
      ∙ get_or-set_same owned (card_index k) b.card 0 (omega (arith, length-set list (desk_index k) b.desk))

  stored-wrote : Wrote list (desk_index k) (words_of b) stored_in (desk_index (k + 1))
  stored-wrote =
      let one : Wrote list (desk_index k) (b.desk ∷ []) owned (desk_index k + 1) =
      wrote-byte list (desk_index k) b.desk (omega arith) in
      let two : Wrote owned (card_index k) (b.card ∷ []) carded (card_index k + 1) =
      wrote-byte owned (card_index k) b.card (omega (arith, length-set list (desk_index k) b.desk)) in
      let three : Wrote carded (shape_index k) (b.shape ∷ []) stored_in (shape_index k + 1) =
      wrote-byte carded (shape_index k) b.shape (omega (
        arith,
        length-set owned (card_index k) b.card,
        length-set list (desk_index k) b.desk,
      )) in
      let second : desk_index k + 1 ≡ card_index k = omega arith in
      let third : card_index k + 1 ≡ shape_index k = omega arith in
      let end : shape_index k + 1 ≡ desk_index (k + 1) = omega arith in
      wrote-append (subst (Wrote list (desk_index k) (b.desk ∷ []) owned) second one)
      (wrote-append (subst (Wrote owned (card_index k) (b.card ∷ []) carded) third two)
      (subst (Wrote carded (shape_index k) (b.shape ∷ []) stored_in) end three))

module _ {nth : ℕ → Booking} {before out first next : List ℕ} {kept i : ℕ} (some : 1 ≤ length before)
    (w : Keeping nth before out first next kept i) {b : Booking} (here : b ≡ nth i)
    {after_first after_next : List ℕ} {again : Bool}
    (e : Entered out kept b first next after_first after_next again) where
  keeping-told : repeated nth i ≡ again
  keeping-told =
      repeated-told nth i b here
      ∙ sym (written-before nth before out i (desk_index kept) b some w.wrote)
      ∙ ap (booked_before (booking_at out) b) (sym w.counted) ∙ sym e.told

  pub keeping-again : again ≡ true → Keeping nth before out after_first after_next kept (i + 1)
  keeping-again booked =
      let (count, words) = firsts-again nth i (keeping-told ∙ booked) in
      record {
        counted = w.counted ∙ sym count;
        wrote = wrote-same (sym words) w.wrote;
        chained = e.stays booked;
      }

  pub keeping-new : again ≡ false → (room : shape_index kept < length out)
      → Keeping nth before (stored_in out kept b room) after_first after_next (kept + 1) (i + 1)
  keeping-new fresh room =
      let (count, words) = firsts-new nth i (keeping-told ∙ fresh) in
      record {
        counted = ap (λ (k : ℕ). k + 1) w.counted ∙ sym count;
        wrote = wrote-same (ap (λ (c : Booking). firsts nth i ++ words_of c) here ∙ sym words)
            (wrote-append w.wrote (stored-wrote out kept b room));
        chained = e.more fresh (card_at (stored_in out kept b room)) (stored_other out kept b room)
            (stored_here out kept b room);
      }

-- the count in front
pub keeping-end : (bookings : List ℕ) {before out first next : List ℕ} {kept : ℕ} → 1 ≤ length before
    → Keeping (stored_at bookings) before out first next kept (get_or bookings 0 0)
    → Wrote before 0 (tidied bookings) (set out 0 kept) (desk_index kept)
unfolding tidied
keeping-end bookings {before} {out} {first} {next} {kept} some w =
    wrote-same (ap (λ (k : ℕ). k ∷ firsts (stored_at bookings) (get_or bookings 0 0)) w.counted)
    (wrote-head kept before (firsts (stored_at bookings) (get_or bookings 0 0)) out (desk_index kept) some w.wrote)

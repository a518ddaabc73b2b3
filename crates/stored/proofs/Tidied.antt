-- A stored list without its repeats: desk 0 books in it what the list books, each pair once.
--   different-le, firsts-length         at most as many as there are bookings, and three words for each
--   different-again, different-new, firsts-again, firsts-new   a booking more: a repeat, or not
--   before-again                        a repeat books nothing new
--   kept-before, written-before         the first bookings of each pair book what the list's first bookings book
--   tidied-count, tidied-length         the count of the tidied list, and its words
--   tidied-booked, tidied-desk          desk 0 books the same pairs, and no other desk books any
--   tidied-listed                       where the stored list is accepted, every call takes the tidied one
--   tidied-whole                        a list without repeats keeps all its bookings
-- Assumes nothing.
use Prim.Native.Nat.{ℕ, zero, suc, ◌+◌, ◌*◌, ◌≤◌, ◌<◌}
use mathlib.Core.Path.{◌≡◌, refl, sym, ap, ap₂, subst, ◌∙◌}
use mathlib.Core.Logic.{◌↔◌, ⊎_elim}
use mathlib.Core.Bool.{true, false, ◌||◌}
use mathlib.Core.List.{List, [], ◌∷◌, ◌++◌}
use native.Mathlib.Omega.{arith}
use native.Mathlib.Numerals.{add-one}
use lib.ListN.{length, get_or, drop, length-append, get_or-append}
use lib.Seq.{get_or-append-add}
use Rattle.words.specs.Reading.{accepted}
use Rattle.words.specs.Wrote.{Wrote}
use Rattle.words.proofs.Bools.{true-or-false, false-true, last-or-below, bools-equal, is_false}
use Rattle.bookings.specs.Bookings.{Booking, same, desk_index, card_index, shape_index, desk_at, card_at}
use Rattle.bookings.specs.Bookings.{shape_at, booking_at, booked_before, repeated, read_bookings, Booked}
use Rattle.stored.specs.Stored.{stored_at, read_stored, StoredBooked}
use Rattle.stored.specs.Tidied.{different, words_of, firsts, tidied}
use Rattle.bookings.proofs.Repeats.{booking-same, before_more, before-exact, before_same, booked-exact}
use Rattle.bookings.proofs.Accepted.{listed-exact}
use Rattle.stored.proofs.StoredLists.{stored_exact, stored-booked}

-- ---- a booking more
module _ (nth : ℕ → Booking) (k : ℕ) where
  pub different-again : repeated nth k ≡ true → different nth (suc k) ≡ different nth k
  unfolding different
  different-again e = rw e refl

  pub different-new : repeated nth k ≡ false → different nth (suc k) ≡ suc (different nth k)
  unfolding different
  different-new e = rw e refl

  kept_again : repeated nth k ≡ true → firsts nth (suc k) ≡ firsts nth k
  unfolding firsts
  kept_again e = rw e refl

  kept_new : repeated nth k ≡ false → firsts nth (suc k) ≡ firsts nth k ++ words_of (nth k)
  unfolding firsts
  kept_new e = rw e refl

  pub firsts-again : repeated nth k ≡ true
      → (different nth (k + 1) ≡ different nth k) × (firsts nth (k + 1) ≡ firsts nth k)
  firsts-again e = (rw (add-one k) (different-again e), rw (add-one k) (kept_again e))

  pub firsts-new : repeated nth k ≡ false
      → (different nth (k + 1) ≡ different nth k + 1) × (firsts nth (k + 1) ≡ firsts nth k ++ words_of (nth k))
  firsts-new e = (
    rw (add-one k, add-one (different nth k)) (different-new e),
    rw (add-one k) (kept_new e),
  )

module _ (nth : ℕ → Booking) where
  different-le : (k : ℕ) → different nth k ≤ k
  unfolding different
  different-le zero = omega arith
  different-le (suc k) = ⊎_elim
      (λ e. omega (arith, different-again nth k e, different-le k))
      (λ e. omega (arith, different-new nth k e, different-le k))
      (true-or-false (repeated nth k))

  firsts-length : (k : ℕ) → length (firsts nth k) ≡ 3 * different nth k
  unfolding different firsts
  firsts-length zero = refl
  firsts-length (suc k) = ⊎_elim
      (λ e. rw (different-again nth k e, kept_again nth k e) (firsts-length k))
      (λ e. rw (different-new nth k e, kept_new nth k e, length-append) (omega (arith, firsts-length k)))
      (true-or-false (repeated nth k))

-- ---- the words behind a list's count
-- Booking j of so many words.
abbrev behind : List ℕ → ℕ → Booking
behind words j =
    record { desk = get_or words (3 * j) 0; card = get_or words (3 * j + 1) 0; shape = get_or words (3 * j + 2) 0 }

booking-behind : (x : ℕ) (words : List ℕ) (j : ℕ) → booking_at (x ∷ words) j ≡ behind words j
unfolding desk_at card_at shape_at
booking-behind x words j =
    let d : desk_index j ≡ suc (3 * j) = omega arith in
    let c : card_index j ≡ suc (3 * j + 1) = omega arith in
    let s : shape_index j ≡ suc (3 * j + 2) = omega arith in
    rw (d, c, s) refl

-- Further words leave the bookings before them, and those right behind them are the next booking's.
module _ (x : ℕ) (words rest : List ℕ) (count : ℕ) (full : length words ≡ 3 * count) where
  booking-kept : (j : ℕ) → j < count → booking_at (x ∷ (words ++ rest)) j ≡ booking_at (x ∷ words) j
  booking-kept j l =
      booking-behind x (words ++ rest) j
      ∙ booking-same {a = behind (words ++ rest) j} {b = behind words j}
      (get_or-append words rest 0 (3 * j) (omega arith))
      (get_or-append words rest 0 (3 * j + 1) (omega arith))
      (get_or-append words rest 0 (3 * j + 2) (omega arith))
      ∙ sym (booking-behind x words j)

  before-kept : (b : Booking) (k : ℕ) → k ≤ count
      → booked_before (booking_at (x ∷ (words ++ rest))) b k ≡ booked_before (booking_at (x ∷ words)) b k
  before-kept b k few = before_same (booking_at (x ∷ (words ++ rest))) (booking_at (x ∷ words)) b k
      (λ j l. booking-kept j (omega arith))

module _ (x : ℕ) (words : List ℕ) (b : Booking) (count : ℕ) (full : length words ≡ 3 * count) where
  -- word i of the next booking
  word_next : (i : ℕ) → get_or (words ++ words_of b) (3 * count + i) 0 ≡ get_or (words_of b) i 0
  word_next i =
      ap (λ (m : ℕ). get_or (words ++ words_of b) (m + i) 0) (sym full) ∙ get_or-append-add words (words_of b) i 0

  booking-next : booking_at (x ∷ (words ++ words_of b)) count ≡ b
  booking-next =
      let start : 3 * count ≡ 3 * count + 0 = omega arith in
      booking-behind x (words ++ words_of b) count
      ∙ booking-same {a = behind (words ++ words_of b) count} {b = b}
      (ap (λ (m : ℕ). get_or (words ++ words_of b) m 0) start ∙ word_next 0) (word_next 1) (word_next 2)

-- ---- the first bookings of each pair book what the list books
module _ (nth : ℕ → Booking) where
  -- a repeat books nothing new
  pub before-again : (b : Booking) (k : ℕ) → repeated nth k ≡ true → booked_before nth b (suc k) ≡ booked_before
      nth b k
  unfolding repeated
  before-again b k again = bools-equal
      (λ e. let (j, l, is) = (before-exact nth b (suc k)).0 e in
      ⊎_elim
      (λ (q : j ≡ k).
      let here : nth k ≡ b = ap nth (sym q) ∙ is in
      subst (λ (c : Booking). booked_before nth c k ≡ true) here again)
      (λ h. (before-exact nth b k).1 (j, h, is))
      (last-or-below l))
      (λ e. is_false (λ h. let (j, l, is) = (before-exact nth b k).0 h in
      false-true (sym e ∙ (before-exact nth b (suc k)).1 (j, omega arith, is))))

  kept-before : (x i : ℕ) (b : Booking)
      → booked_before (booking_at (x ∷ firsts nth i)) b (different nth i) ≡ booked_before nth b i
  unfolding different booked_before
  kept-before x zero b = refl
  kept-before x (suc i) b = ⊎_elim
      (λ e. rw (different-again nth i e, kept_again nth i e) (kept-before x i b ∙ sym (before-again b i e)))
      (λ e.
      let full = firsts-length nth i in
      let next = booking-next x (firsts nth i) (nth i) (different nth i) full in
      let before =
      before-kept x (firsts nth i) (words_of (nth i)) (different nth i) full b (different nth i) (omega arith) in
      rw (kept_new nth i e, different-new nth i e)
      (before_more (booking_at (x ∷ (firsts nth i ++ words_of (nth i)))) b (different nth i)
      ∙ ap₂ ◌||◌ (before ∙ kept-before x i b) (ap (λ (c : Booking). same c b) next) ∙ sym (before_more nth b i)))
      (true-or-false (repeated nth i))

-- the same of a buffer in which they were written
pub written-before : (nth : ℕ → Booking) (before out : List ℕ) (i next : ℕ) (b : Booking) → 1 ≤ length before
    → Wrote before 1 (firsts nth i) out next
    → booked_before (booking_at out) b (different nth i) ≡ booked_before nth b i
written-before nth [] out i next b one w = absurd (omega arith)
written-before nth (x ∷ xs) out i next b one w =
    ap (λ (l : List ℕ). booked_before (booking_at l) b (different nth i)) w.holds
    ∙ before-kept x (firsts nth i) (drop next (x ∷ xs)) (different nth i) (firsts-length nth i) b (different nth i)
    (omega arith)
    ∙ kept-before nth x i b

-- ---- none of them is a repeat
module _ (nth : ℕ → Booking) (x : ℕ) where
  kept-once : (k j : ℕ) → j < different nth k → repeated (booking_at (x ∷ firsts nth k)) j ≡ false
  unfolding different repeated
  kept-once zero j l = absurd (omega arith)
  kept-once (suc k) j l = ⊎_elim
      (λ e. rw (kept_again nth k e) (kept-once k j (rw (different-again nth k e) at l)))
      (λ e.
      let full = firsts-length nth k in
      let below : j < suc (different nth k) = rw (different-new nth k e) at l in
      rw (
        kept_new nth k e,
        before-kept x (firsts nth k) (words_of (nth k)) (different nth k) full
            (booking_at (x ∷ (firsts nth k ++ words_of (nth k))) j) j (omega arith),
      ) (⊎_elim
      (λ (q : j ≡ different nth k). rw (
        q,
        booking-next x (firsts nth k) (nth k) (different nth k) full,
        kept-before nth x k (nth k),
      ) e)
      (λ (b : j < different nth k). rw (booking-kept x (firsts nth k) (words_of (nth k)) (different nth k) full j b)
      (kept-once k j b))
      (last-or-below below)))
      (true-or-false (repeated nth k))

-- ---- the tidied list
module _ (bookings : List ℕ) where
  -- its count
  abbrev kept : ℕ
  kept = different (stored_at bookings) (get_or bookings 0 0)

  tidied-count : get_or (tidied bookings) 0 0 ≡ kept
  unfolding tidied
  tidied-count = refl

  pub tidied-length : length (tidied bookings) ≡ 1 + 3 * kept
  unfolding tidied
  tidied-length = omega (arith, firsts-length (stored_at bookings) (get_or bookings 0 0))

  tidied-before : (b : Booking) → booked_before (booking_at (tidied bookings)) b (get_or (tidied bookings) 0 0)
      ≡ booked_before (stored_at bookings) b (get_or bookings 0 0)
  unfolding tidied
  tidied-before b = kept-before (stored_at bookings) kept (get_or bookings 0 0) b

  pub tidied-booked : (n t : ℕ) → Booked (tidied bookings) 0 n t ↔ StoredBooked bookings n t
  tidied-booked n t = (
    λ b. (stored-booked bookings n t).0 (sym (tidied-before _) ∙ (booked-exact (tidied bookings) 0 n t).1 b),
    λ b. (booked-exact (tidied bookings) 0 n t).0 (tidied-before _ ∙ (stored-booked bookings n t).1 b),
  )

  -- each of its bookings is one of the stored list, with desk 0
  tidied-from : (i : ℕ) → i < get_or (tidied bookings) 0 0
      → (j : ℕ) × (j < get_or bookings 0 0) × (stored_at bookings j ≡ booking_at (tidied bookings) i)
  tidied-from i l =
      let b = booking_at (tidied bookings) i in
      let all = get_or (tidied bookings) 0 0 in
      (before-exact (stored_at bookings) b (get_or bookings 0 0)).0
      (sym (tidied-before b) ∙ (before-exact (booking_at (tidied bookings)) b all).1 (i, l, refl))

  pub tidied-desk : {d n t : ℕ} → Booked (tidied bookings) d n t → d ≡ 0
  tidied-desk b =
      let (j, l, is) = tidied-from b.booking b.listed in
      sym b.ours ∙ sym (ap (λ (x : Booking). x.desk) is)

  tidied-once : (j : ℕ) → j < kept → repeated (booking_at (tidied bookings)) j ≡ false
  unfolding tidied
  tidied-once j l = kept-once (stored_at bookings) kept (get_or bookings 0 0) j l

-- ---- where the stored list is accepted
pub tidied-listed : (cards shapes : ℕ) (bookings : List ℕ) (count : ℕ)
    → read_stored cards shapes bookings ≡ accepted count
    → read_bookings cards shapes (tidied bookings) ≡ accepted (different (stored_at bookings) count)
tidied-listed cards shapes bookings count read =
    let (fine, is) = (stored_exact cards shapes bookings count).0 read in
    (listed-exact cards shapes (tidied bookings) (different (stored_at bookings) count)).1 (
      record {
        sized = record {
          few = omega (
            arith,
            tidied-count bookings,
            different-le (stored_at bookings) (get_or bookings 0 0),
            fine.sized.few,
          );
          size = omega (arith, tidied-count bookings, tidied-length bookings);
        };
        desk-in = λ i l. (inside i l).0;
        card-in = λ i l. (inside i l).1;
        shape-in = λ i l. (inside i l).2;
        once = λ i l. tidied-once bookings i (omega (arith, tidied-count bookings));
      },
      ap (different (stored_at bookings)) is ∙ sym (tidied-count bookings),
    )
  where
    inside : (i : ℕ) → i < get_or (tidied bookings) 0 0 → (desk_at (tidied bookings) i ≤ 1)
        × (card_at (tidied bookings) i < cards) × (shape_at (tidied bookings) i < shapes)
    inside i l =
        let (fine, is) = (stored_exact cards shapes bookings count).0 read in
        let (j, lj, from) = tidied-from bookings i l in
        subst (λ (b : Booking). (b.desk ≤ 1) × (b.card < cards) × (b.shape < shapes)) from
        (omega arith, fine.card-in j lj, fine.shape-in j lj)

-- ---- a list without repeats keeps all its bookings
all-kept : (nth : ℕ → Booking) (x k : ℕ) → ((i : ℕ) → i < k → repeated nth i ≡ false)
    → (different nth k ≡ k) × ((i : ℕ) → i < k → booking_at (x ∷ firsts nth k) i ≡ nth i)
unfolding different firsts
all-kept nth x zero once = (refl, λ i l. absurd (omega arith))
all-kept nth x (suc k) once =
    let fresh = once k (omega arith) in
    let (count, each) = all-kept nth x k (λ i l. once i (omega arith)) in
    let full : length (firsts nth k) ≡ 3 * k = omega (arith, firsts-length nth k, count) in (
      different-new nth k fresh ∙ ap suc count,
      λ i l. rw (kept_new nth k fresh) (⊎_elim
          (λ (q : i ≡ k). rw q (booking-next x (firsts nth k) (nth k) k full))
          (λ (b : i < k). booking-kept x (firsts nth k) (words_of (nth k)) k full i b ∙ each i b)
          (last-or-below l)),
    )

pub tidied-whole : (bookings : List ℕ)
    → ((i : ℕ) → i < get_or bookings 0 0 → repeated (stored_at bookings) i ≡ false)
    → (different (stored_at bookings) (get_or bookings 0 0) ≡ get_or bookings 0 0)
    × ((i : ℕ) → i < get_or bookings 0 0 → booking_at (tidied bookings) i ≡ stored_at bookings i)
unfolding tidied
tidied-whole bookings once = all-kept (stored_at bookings) _ (get_or bookings 0 0) once

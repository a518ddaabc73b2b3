-- The bookings of one desk, by their words alone.
--   among                 a card and a shape stand among the words of a desk's bookings
--   booked-among          a desk books a pair exactly if it stands there
--   desk-words-booked     lists with the same words of a desk book the same pairs for it
-- Assumes nothing.
use Prim.Native.Nat.{ℕ, zero, suc, ◌+◌, ◌≤◌, ◌<◌}
use mathlib.Core.Path.{◌≡◌, refl, sym, ap, subst, ◌∙◌}
use mathlib.Core.Logic.{◌↔◌, ⊎_elim}
use mathlib.Core.Bool.{Bool, true, false, ◌&&◌, ◌||◌}
use mathlib.Core.List.{List, [], ◌∷◌}
use native.Mathlib.Omega.{arith}
use native.Mathlib.Nat.{eq-or-lt_of_le}
use lib.ListN.{get_or}
use lib.Dec.{eqb}
use borrow.Author.Tests.{eqb-true, eq-eqb, ne_eqb}
use Rattle.words.proofs.Bools.{and_first, and_second, and_both, or_cases, or_left, or_right, false-true, eq-or-ne}
use Rattle.bookings.specs.Bookings.{desk_at, card_at, shape_at, Booked, desk_words_from, desk_words}

-- Of the words of bookings, two for each, whether some are of the card and the shape.
unfoldable pub among : List ℕ → ℕ → ℕ → Bool
among [] n t = false
among (c ∷ []) n t = false
among (c ∷ s ∷ words) n t = (eqb c n && eqb s t) || among words n t

module _ (bookings : List ℕ) (d n t : ℕ) where
  -- booking j is the desk's, and of the card and the shape
  abbrev Is : ℕ → Type 0
  Is j = (desk_at bookings j ≡ d) × (card_at bookings j ≡ n) × (shape_at bookings j ≡ t)

  -- the test of booking i
  abbrev here : ℕ → Bool
  here i = eqb (card_at bookings i) n && eqb (shape_at bookings i) t

  -- of the bookings from booking i on
  abbrev rest : ℕ → ℕ → Bool
  rest m i = among (desk_words_from bookings d m i) n t

  rest-ours : (m i : ℕ) → desk_at bookings i ≡ d → rest (suc m) i ≡ (here i || rest m (suc i))
  unfolding desk_words_from among
  rest-ours m i e = rw (eq-eqb (desk_at bookings i) d e) refl

  rest-other : (m i : ℕ) → (desk_at bookings i ≡ d → ⊥) → rest (suc m) i ≡ rest m (suc i)
  unfolding desk_words_from
  rest-other m i ne = rw (ne_eqb (desk_at bookings i) d ne) refl

  rest_some : (m i : ℕ) → rest m i ≡ true → (j : ℕ) × (j < i + m) × Is j
  unfolding desk_words_from among
  rest_some zero i e = false-true e
  rest_some (suc m) i e = ⊎_elim
      (λ ours. ⊎_elim
      (λ h. (
        i,
        omega arith,
        (
          ours,
          eqb-true (card_at bookings i) n (and_first _ (eqb (shape_at bookings i) t) h),
          eqb-true (shape_at bookings i) t (and_second (eqb (card_at bookings i) n) _ h),
        ),
      ))
      (λ h. let (j, l, is) = rest_some m (suc i) h in (j, omega arith, is))
      (or_cases (here i) (rest m (suc i)) (sym (rest-ours m i ours) ∙ e)))
      (λ other. let (j, l, is) = rest_some m (suc i) (sym (rest-other m i other) ∙ e) in (j, omega arith, is))
      (eq-or-ne (desk_at bookings i) d)

  some-rest : (m i j : ℕ) → i ≤ j → j < i + m → Is j → rest m i ≡ true
  some-rest zero i j low high is = absurd (omega arith)
  some-rest (suc m) i j low high is = ⊎_elim
      (λ (q : i ≡ j).
      let (ours, card, shape) = subst Is (sym q) is in
      rest-ours m i ours ∙ or_left (here i) (rest m (suc i))
      (and_both _ _ (eq-eqb (card_at bookings i) n card) (eq-eqb (shape_at bookings i) t shape)))
      (λ l.
      let later = some-rest m (suc i) j l (omega arith) is in
      ⊎_elim
      (λ ours. rest-ours m i ours ∙ or_right (here i) (rest m (suc i)) later)
      (λ other. rest-other m i other ∙ later)
      (eq-or-ne (desk_at bookings i) d))
      (eq-or-lt_of_le low)

  pub booked-among : Booked bookings d n t ↔ (among (desk_words bookings d) n t ≡ true)
  booked-among = (
    λ b. some-rest (get_or bookings 0 0) 0 b.booking (omega arith) (omega (arith, b.listed))
        (b.ours, b.card, b.shape),
    λ e. let (j, l, (ours, card, shape)) = rest_some (get_or bookings 0 0) 0 e in
        record { booking = j; listed = omega (arith, l); ours = ours; card = card; shape = shape },
  )

pub desk-words-booked : (a b : List ℕ) (d : ℕ) → desk_words a d ≡ desk_words b d
    → (n t : ℕ) → Booked a d n t ↔ Booked b d n t
desk-words-booked a b d e n t =
    let words = ap (λ (l : List ℕ). among l n t) e in (
      λ x. (booked-among b d n t).1 (sym words ∙ (booked-among a d n t).0 x),
      λ x. (booked-among a d n t).1 (words ∙ (booked-among b d n t).0 x),
    )

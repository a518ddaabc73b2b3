-- The place of a pair: that of card n and shape t is n × shapes + t.
--   place_in            the place of a pair is on the board
--   card-in, shape-in   the card and the shape of a place of the board
--   place_of            a place is the place of its card and shape
--   card-of, shape_of   the card and the shape of a pair's place
--   place-from          a place whose card is a card is on the board
--   card-room           all places of a card are on the board
--   card-below     a pair with a place in the grid is one of the sheet
--   place-unique   two pairs with one place are one
-- Assumes nothing.
use mathlib.Core.Path.{◌≡◌, sym, ap, ◌∙◌, subst}
use Prim.Native.Nat.{ℕ, ◌+◌, ◌*◌, ◌/◌, ◌%◌, ◌≤◌, ◌<◌}
use native.Mathlib.Nat.{mod-lt, mod-eq_of_lt, div-add-mod', div-lt_iff_lt-mul, div-eq_of_lt, mul-add-div_right}
use native.Mathlib.Nat.{mul-add-mod_self_right, mul-le-mul_right, suc-mul, add-zero}
use native.Mathlib.Omega.{arith}

module _ (cards shapes : ℕ) where
  pub card-room : (n : ℕ) → n < cards → n * shapes + shapes ≤ cards * shapes
  card-room n ln = omega (arith, suc-mul n shapes, mul-le-mul_right shapes ln)

  pub place_in : (n t : ℕ) → n < cards → t < shapes → n * shapes + t < cards * shapes
  place_in n t ln lt = omega (arith, card-room n ln)

module _ (shapes : ℕ) (one-shape : 0 < shapes) where
  pub card-in : (cards p : ℕ) → p < cards * shapes → p / shapes < cards
  card-in cards p l = (div-lt_iff_lt-mul one-shape).1 l

  pub place-from : (cards p : ℕ) → p / shapes < cards → p < cards * shapes
  place-from cards p l = (div-lt_iff_lt-mul one-shape).0 l

  pub shape-in : (p : ℕ) → p % shapes < shapes
  shape-in p = mod-lt p one-shape

  pub place_of : (p : ℕ) → p / shapes * shapes + p % shapes ≡ p
  place_of p = div-add-mod' p shapes

  pub card-of : (n t : ℕ) → t < shapes → (n * shapes + t) / shapes ≡ n
  card-of n t l = mul-add-div_right one-shape n t ∙ ap (λ (x : ℕ). n + x) (div-eq_of_lt l) ∙ add-zero n

  pub shape_of : (n t : ℕ) → t < shapes → (n * shapes + t) % shapes ≡ t
  shape_of n t l = mul-add-mod_self_right n shapes t ∙ mod-eq_of_lt l

module _ (shapes : ℕ) (one-shape : 0 < shapes) where
  pub card-below : (cards n t : ℕ) → t < shapes → n * shapes + t < cards * shapes → n < cards
  card-below cards n t lt l =
      subst (λ (x : ℕ). x < cards) (card-of shapes one-shape n t lt) (card-in shapes one-shape cards (n * shapes +
      t) l)

  pub place-unique : (n t m u : ℕ) → t < shapes → u < shapes → n * shapes + t ≡ m * shapes + u → (n ≡ m) × (t ≡ u)
  place-unique n t m u lt lu e = (
    sym (card-of shapes one-shape n t lt) ∙ ap (λ (x : ℕ). x / shapes) e ∙ card-of shapes one-shape m u lu,
    sym (shape_of shapes one-shape n t lt) ∙ ap (λ (x : ℕ). x % shapes) e ∙ shape_of shapes one-shape m u lu,
  )

-- The card of a pair, from its place.
--   scaled-card    by the reciprocal of the number of shapes: what it is rounded up by is too little to matter
--   factor-bound   the reciprocal is one more than the scale at most
--   guessed-card   by a guess that is right
--   card-low, shape-left     the card's first place is no later, and what is left of the place is the shape
--   card-last, some-card     the card is one of the sheet, which has one
--   place-below              the place is one of the greatest grid
-- Assumes nothing.
use mathlib.Core.Path.{◌≡◌, sym, ap, ◌∙◌}
use mathlib.Core.List.{List}
use Prim.Native.Nat.{ℕ, suc, ◌+◌, ◌-◌, ◌*◌, ◌/◌, ◌%◌, ◌≤◌, ◌<◌}
use native.Mathlib.Nat.{le-div_iff_mul-le, div-lt_iff_lt-mul, div-mul-le_self, mul-div-le, mul-le-mul_left}
use native.Mathlib.Nat.{div-le_self, mul-le-mul_right, mul_assoc, mul_comm, mul_left_comm, mul-suc, suc-mul}
use native.Mathlib.Numerals.{add-one}
use native.Mathlib.Omega.{arith}
use lib.ListN.{get_or}
use Rattle.words.specs.Sizes.{max_grid}
use Rattle.words.proofs.Places.{card-in, card-of, place_of, place-from}
use Rattle.typing.specs.Needs.{Ready}
use Rattle.typing.proofs.Boards.{pairs-bound}
use Rattle.walks.specs.Cards.{scale, Reciprocal}

module _ (shapes q : ℕ) (one-shape : 0 < shapes) where
  pub guessed-card : (guess : ℕ) → guess * shapes ≤ q → q < guess * shapes + shapes → guess ≡ q / shapes
  guessed-card guess low high =
      sym (card-of shapes one-shape guess (q - guess * shapes) (omega arith))
      ∙ ap (λ (p : ℕ). p / shapes) (omega arith)

  pub card-low : {card : ℕ} → card ≡ q / shapes → card * shapes ≤ q
  card-low {card} e =
      let same : card * shapes ≡ q / shapes * shapes = ap (λ (x : ℕ). x * shapes) e in
      omega (arith, place_of shapes one-shape q, same)

  pub shape-left : {card : ℕ} → card ≡ q / shapes → q - card * shapes ≡ q % shapes
  shape-left {card} e =
      let same : card * shapes ≡ q / shapes * shapes = ap (λ (x : ℕ). x * shapes) e in
      omega (arith, place_of shapes one-shape q, same)

pub factor-bound : {shapes factor : ℕ} → Reciprocal shapes factor → factor ≤ scale + 1
factor-bound {shapes} by = omega (arith, by.scaled, div-le_self scale shapes)

module _ {shapes factor : ℕ} (by : Reciprocal shapes factor) (q : ℕ) (on-board : q < max_grid) where
  -- the scale over the shapes, rounded down: no place is over it
  abbrev whole : ℕ
  whole = scale / shapes

  great : max_grid ≤ whole
  great = (le-div_iff_mul-le by.one-shape).1 (omega (arith, by.few-shapes))

  abbrev card : ℕ
  card = q / shapes

  -- card × scale ≤ card × (suc whole × shapes) ≤ suc whole × q
  low : card * scale ≤ q * suc whole
  low =
      let over : scale < suc whole * shapes = place-from shapes by.one-shape (suc whole) scale (omega arith) in
      let most : scale ≤ suc whole * shapes = omega (arith, over) in
      omega (
        arith,
        mul-le-mul_left card most,
        mul_left_comm card (suc whole) shapes,
        mul-le-mul_left (suc whole) (div-mul-le_self q shapes),
        mul_comm (suc whole) q,
      )

  -- q × suc whole < suc q × whole ≤ suc card × shapes × whole ≤ suc card × scale
  high : q * suc whole < suc card * scale
  high =
      let next : suc q ≤ suc card * shapes = place-from shapes by.one-shape (suc card) q (omega arith) in
      omega (
        arith,
        on-board,
        great,
        mul-suc q whole,
        suc-mul q whole,
        mul-le-mul_right whole next,
        mul_assoc (suc card) shapes whole,
        mul-le-mul_left (suc card) (mul-div-le scale shapes),
      )

  by_whole : q * suc whole / scale ≡ card
  by_whole =
      let lower = (le-div_iff_mul-le {k = scale} (omega arith)).1 low in
      let upper = (div-lt_iff_lt-mul {k = scale} (omega arith)).1 high in
      omega (arith, lower, upper)

  pub scaled-card : q * factor / scale ≡ q / shapes
  scaled-card = ap (λ (x : ℕ). q * x / scale) (by.scaled ∙ add-one whole) ∙ by_whole

module _ {script names : List ℕ} {shapes : ℕ} (ready : Ready script names shapes) {q : ℕ}
    (on-board : q < get_or script 0 0 * shapes) where
  pub card-last : {card : ℕ} → card ≡ q / shapes → card ≤ get_or script 0 0 - 1
  card-last e = omega (arith, e, card-in shapes ready.one-shape (get_or script 0 0) q on-board)

  pub some-card : 0 < get_or script 0 0
  some-card = omega (arith, card-in shapes ready.one-shape (get_or script 0 0) q on-board)

  pub place-below : q < max_grid
  place-below = omega (arith, on-board, pairs-bound ready)

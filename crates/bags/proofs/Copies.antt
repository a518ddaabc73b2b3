-- Sums of i bags of a link: n copies, where i × low ≤ n ≤ i × high.
--   UnderTimes                 n is at most i times the high
--   power-copies, copies-power i bags of a link are such copies, and such copies are i of its bags
-- Assumes nothing.
use Prim.Native.Nat.{ℕ, zero, suc, ◌+◌, ◌-◌, ◌*◌, ◌≤◌, min}
use mathlib.Core.Path.{◌≡◌, refl, sym, ◌∙◌, ap, ap₂}
use mathlib.Core.Logic.{◌⊎◌, inl, inr}
use mathlib.Core.Bool.{Bool, true, false}
use native.Mathlib.Omega.{arith}
use native.Mathlib.Nat.{not-suc-le-zero, le_of_mul-le-mul_left, mul-le-mul_left}
use lib.Dec.{eqb}
use Rattle.bags.specs.Part.{Limit, at_most, no-limit}
use Rattle.bags.specs.Bag.{Bag, ∅, ◌⊕◌, when, copies, Power, Under, Copies}
use Rattle.bags.proofs.Powers.{bag-ext}

-- n is at most i times the high; with no limit, i is 1 or more, or n is 0.
abbrev pub UnderTimes : ℕ → ℕ → Limit → Type 0
UnderTimes i n (at_most high) = n ≤ i * high
UnderTimes i n no-limit = (1 ≤ i) ⊎ (n ≡ 0)

when-add : (t : Bool) (m n : ℕ) → when t m + when t n ≡ when t (m + n)
when-add true m n = refl
when-add false m n = refl

when-zero : (t : Bool) → when t 0 ≡ 0
when-zero true = refl
when-zero false = refl

copies-add : (m n label shape : ℕ) → copies m label shape ⊕ copies n label shape ≡ copies (m + n) label shape
copies-add m n label shape =
    bag-ext (λ k s. when-add (eqb k label) _ _ ∙ ap (when (eqb k label)) (when-add (eqb s shape) m n))

copies-zero : (label shape : ℕ) → copies 0 label shape ≡ ∅
copies-zero label shape =
    bag-ext (λ k s. ap (when (eqb k label)) (when-zero (eqb s shape)) ∙ when-zero (eqb k label))

under-zero : (high : Limit) → UnderTimes 0 0 high
under-zero (at_most h) = omega arith
under-zero no-limit = inr refl

under-add : (high : Limit) (i m n : ℕ) → Under m high → UnderTimes i n high → UnderTimes (suc i) (m + n) high
under-add (at_most h) i m n u v = omega arith
under-add no-limit i m n u v = inl (omega arith)

none_left : (high : Limit) (n : ℕ) → UnderTimes 0 n high → n ≡ 0
none_left (at_most h) n u = omega arith
none_left no-limit n (inl u) = absurd (not-suc-le-zero u)
none_left no-limit n (inr u) = u

-- Of the copies of i + 1 bags, those of one bag and those of the others.
one-off : (low : ℕ) (high : Limit) (i n : ℕ) → suc i * low ≤ n → UnderTimes (suc i) n high
    → (m : ℕ) × (l : ℕ) × (m + l ≡ n) × (low ≤ m) × Under m high × (i * low ≤ l) × UnderTimes i l high
one-off low (at_most h) i n p q =
    let g : low ≤ h = le_of_mul-le-mul_left {k = suc i} (omega arith) (omega arith) in
    let f : i * low ≤ i * h = mul-le-mul_left i g in
    let m : ℕ = min h (n - i * low) in
    (m, n - m, omega arith, omega arith, omega arith, omega arith, omega arith)
one-off low no-limit i n p q = (n - i * low, i * low, omega arith, omega arith, tt, omega arith, rest i)
  where
    rest : (j : ℕ) → (1 ≤ j) ⊎ (j * low ≡ 0)
    rest zero = inr (omega arith)
    rest (suc j) = inl (omega arith)

module _ (label shape low : ℕ) (high : Limit) where
  pub power-copies : (i : ℕ) (b : Bag) → Power (Copies label shape low high) i b
      → (n : ℕ) × (i * low ≤ n) × UnderTimes i n high × (b ≡ copies n label shape)
  power-copies zero b e = (0, omega arith, under-zero high, e ∙ sym (copies-zero label shape))
  power-copies (suc i) b t =
      let (x, y, h, r, e) = t in
      let (m, lm, um, em) = h in
      let (n, ln, un, en) = power-copies i y r in
      let f : x ⊕ y ≡ copies m label shape ⊕ copies n label shape = ap₂ ◌⊕◌ em en in
      (m + n, omega arith, under-add high i m n um un, e ∙ f ∙ copies-add m n label shape)

  pub copies-power : (i n : ℕ) → i * low ≤ n → UnderTimes i n high
      → Power (Copies label shape low high) i (copies n label shape)
  copies-power zero n p q = ap (λ (m : ℕ). copies m label shape) (none_left high n q) ∙ copies-zero label shape
  copies-power (suc i) n p q =
      let (m, l, e, lm, um, ll, ul) = one-off low high i n p q in (
        copies m label shape,
        copies l label shape,
        (m, lm, um, refl),
        copies-power i l ll ul,
        ap (λ (z : ℕ). copies z label shape) (sym e) ∙ sym (copies-add m l label shape),
      )

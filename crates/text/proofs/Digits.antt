-- Laws of a number's digits in base ten.
--   digits-small, digits_more   below ten its own digit, else those of the tenth part and the rest
--   digits-length, digits-bound there are at most 20, and at most k below 10^k
-- Assumes nothing.
use mathlib.Core.Path.{◌≡◌, refl, sym, ap, ◌∙◌, subst}
use mathlib.Core.Logic.{◌⊎◌, inl, inr, ⊎_elim}
use mathlib.Core.List.{List, [], ◌∷◌, ◌++◌}
use mathlib.Core.Bool.{Bool, true, false, cond}
use Prim.Native.Nat.{ℕ, zero, suc, ◌+◌, ◌/◌, ◌%◌, ◌^◌, ◌≤◌, ◌<◌}
use native.Mathlib.Nat.{div-lt_iff_lt-mul, pow-suc}
use native.Mathlib.Omega.{arith}
use lib.Dec.{ltb, lit<}
use lib.ListN.{length, length-append}
use borrow.Author.Tests.{ltb-true, ltb-false, lt-ltb, le-ltb}
use Rattle.text.specs.Text.{digit, digits_by, digits}

by-test : (n : ℕ) (b : Bool) → ltb n 10 ≡ b → (n < 10) ⊎ (10 ≤ n)
by-test n true e = inl (ltb-true n 10 e)
by-test n false e = inr (ltb-false n 10 e)

below-ten : (n : ℕ) → (n < 10) ⊎ (10 ≤ n)
below-ten n = by-test n (ltb n 10) refl

tenth-below : (k n : ℕ) → n < 10 ^ suc k → n / 10 < 10 ^ k
tenth-below k n h = (div-lt_iff_lt-mul (lit< tt)).1 (subst (λ (m : ℕ). n < m) (pow-suc 10 k) h)

by-small : (k n : ℕ) → n < 10 → digits_by (suc k) n ≡ digit n ∷ []
unfolding digits_by
by-small k n h =
    ap (λ (b : Bool). cond b (digit n ∷ []) (digits_by k (n / 10) ++ (digit (n % 10) ∷ []))) (lt-ltb n 10 h)

by-more : (k n : ℕ) → 10 ≤ n → digits_by (suc k) n ≡ digits_by k (n / 10) ++ (digit (n % 10) ∷ [])
unfolding digits_by
by-more k n h =
    ap (λ (b : Bool). cond b (digit n ∷ []) (digits_by k (n / 10) ++ (digit (n % 10) ∷ []))) (le-ltb n 10 h)

-- k steps are enough below 10^k
by-enough : (k n : ℕ) → n < 10 ^ suc k → digits_by (suc (suc k)) n ≡ digits_by (suc k) n
by-enough zero n h = by-small 1 n h ∙ sym (by-small 0 n h)
by-enough (suc k) n h = ⊎_elim
    (λ small. by-small (suc (suc k)) n small ∙ sym (by-small (suc k) n small))
    (λ large.
    by-more (suc (suc k)) n large
    ∙ ap (λ (l : List ℕ). l ++ (digit (n % 10) ∷ [])) (by-enough k (n / 10) (tenth-below (suc k) n h))
    ∙ sym (by-more (suc k) n large))
    (below-ten n)

pub digits-small : (n : ℕ) → n < 10 → digits n ≡ digit n ∷ []
unfolding digits
digits-small n h = by-small 19 n h

pub digits_more : (n : ℕ) → 10 ≤ n → n < 10 ^ 20 → digits n ≡ digits (n / 10) ++ (digit (n % 10) ∷ [])
unfolding digits
digits_more n large h =
    by-more 19 n large
    ∙ ap (λ (l : List ℕ). l ++ (digit (n % 10) ∷ [])) (sym (by-enough 18 (n / 10) (tenth-below 19 n h)))

pub digits-more-length : (n : ℕ) → 10 ≤ n → n < 10 ^ 20 → length (digits n) ≡ length (digits (n / 10)) + 1
digits-more-length n large h =
    ap length (digits_more n large h) ∙ length-append (digits (n / 10)) (digit (n % 10) ∷ [])

by_length : (k n : ℕ) → length (digits_by k n) ≤ k
unfolding digits_by
by_length zero n = omega arith
by_length (suc k) n = ⊎_elim
    (λ small. omega (arith, ap length (by-small k n small)))
    (λ large.
    omega (
      arith,
      ap length (by-more k n large),
      length-append (digits_by k (n / 10)) (digit (n % 10) ∷ []),
      by_length k (n / 10),
    ))
    (below-ten n)

pub digits-length : (n : ℕ) → length (digits n) ≤ 20
unfolding digits
digits-length n = by_length 20 n

by-bound : (steps k n : ℕ) → n < 10 ^ suc k → length (digits_by steps n) ≤ suc k
unfolding digits_by
by-bound zero k n h = omega arith
by-bound (suc steps) zero n h = omega (arith, ap length (by-small steps n h))
by-bound (suc steps) (suc k) n h = ⊎_elim
    (λ small. omega (arith, ap length (by-small steps n small)))
    (λ large.
    omega (
      arith,
      ap length (by-more steps n large),
      length-append (digits_by steps (n / 10)) (digit (n % 10) ∷ []),
      by-bound steps k (n / 10) (tenth-below (suc k) n h),
    ))
    (below-ten n)

pub digits-bound : (k n : ℕ) → n < 10 ^ suc k → length (digits n) ≤ suc k
unfolding digits
digits-bound k n h = by-bound 20 k n h

-- How many numbers below a bound pass a test.
--   bit-true, bit-false      the count of one test
--   tally-zero, tally-hit, tally-miss    no number; one number more
--   tally-le                 at most the bound
--   tally-mono, tally-lt     a wider test counts as many, or more where one more passes
--   tally-ext, tally-more    equal tests count the same; tests that differ in one number, one more
--   tally-pos                above 0 where some number passes
--   tally-none               0 where none passes
--   tally-split, tally-both  what passes and what does not, together
--   Lowest, none-or-lowest   none passes, or there is a lowest that does
--   all-at, all_of, all-not  what `all` says
-- Assumes nothing.
use mathlib.Core.Path.{◌≡◌, refl, sym, ap, subst}
use mathlib.Core.Logic.{◌⊎◌, inl, inr, ⊎_elim, ◌≢◌}
use mathlib.Core.Bool.{Bool, true, false, not, ◌&&◌}
use Prim.Native.Nat.{ℕ, zero, suc, ◌+◌, ◌≤◌, ◌<◌}
use native.Mathlib.Nat.{not-suc-le-zero}
use native.Mathlib.Numerals.{add-one}
use native.Mathlib.Omega.{arith}
use borrow.Author.Tests.{eqb-true, eq-eqb}
use Rattle.board.specs.Grid.{bit, tally}
use Rattle.board.specs.Machine.{all}
use Rattle.words.proofs.Bools.{never_both, true-or-false, is_true, false_of_not, not_of_false, not-of-true}
use Rattle.words.proofs.Bools.{last-or-below}

-- ---- one test
bit_le : (b : Bool) → bit b ≤ 1
unfolding bit
bit_le true = omega arith
bit_le false = omega arith

pub bit-true : (b : Bool) → b ≡ true → bit b ≡ 1
unfolding bit
bit-true b e = rw e

pub bit-false : (b : Bool) → b ≡ false → bit b ≡ 0
unfolding bit
bit-false b e = rw e

bit-mono : (a b : Bool) → (a ≡ true → b ≡ true) → bit a ≤ bit b
unfolding bit
bit-mono true b f = omega (arith, bit-true b (f refl))
bit-mono false b f = omega arith

-- ---- one number more
pub tally-zero : (p : ℕ → Bool) → tally p 0 ≡ 0
unfolding tally
tally-zero p = refl

pub tally-hit : (p : ℕ → Bool) (n : ℕ) → p n ≡ true → tally p (n + 1) ≡ tally p n + 1
unfolding tally
tally-hit p n e = rw (add-one n) (omega (arith, bit-true (p n) e))

pub tally-miss : (p : ℕ → Bool) (n : ℕ) → p n ≡ false → tally p (n + 1) ≡ tally p n
unfolding tally
tally-miss p n e = rw add-one (omega (arith, bit-false (p n) e))

-- ---- comparisons
pub tally-le : (p : ℕ → Bool) (n : ℕ) → tally p n ≤ n
unfolding tally
tally-le p zero = omega arith
tally-le p (suc n) = omega (arith, tally-le p n, bit_le (p n))

tally-mono : (p q : ℕ → Bool) (n : ℕ) → ((i : ℕ) → i < n → p i ≡ true → q i ≡ true) → tally p n ≤ tally q n
unfolding tally
tally-mono p q zero f = omega arith
tally-mono p q (suc n) f =
    omega (arith, tally-mono p q n (λ i l. f i (omega arith)), bit-mono (p n) (q n) (f n (omega arith)))

pub tally-ext : (p q : ℕ → Bool) (n : ℕ) → ((i : ℕ) → i < n → p i ≡ q i) → tally p n ≡ tally q n
unfolding tally
tally-ext p q zero f = refl
tally-ext p q (suc n) f =
    omega (arith, tally-ext p q n (λ i l. f i (omega arith)), ap bit (f n (omega arith)))

-- the tests agree but at one number, where only the second passes
pub tally-more : (p q : ℕ → Bool) (n k : ℕ) → k < n → p k ≡ false → q k ≡ true
    → ((i : ℕ) → i < n → i ≢ k → p i ≡ q i) → tally q n ≡ suc (tally p n)
unfolding tally
tally-more p q zero k l a b f = absurd (not-suc-le-zero l)
tally-more p q (suc n) k l a b f = ⊎_elim
    (λ (e : k ≡ n). omega (
      arith,
      tally-ext p q n (λ i li. f i (omega arith) (omega arith)),
      bit-false (p n) (subst (λ (x : ℕ). p x ≡ false) e a),
      bit-true (q n) (subst (λ (x : ℕ). q x ≡ true) e b),
    ))
    (λ (m : k < n). omega (
      arith,
      tally-more p q n k m a b (λ i li. f i (omega arith)),
      ap bit (f n (omega arith) (omega arith)),
    ))
    (last-or-below l)

-- the second test is wider, and passes one number more
pub tally-lt : (p q : ℕ → Bool) (n k : ℕ) → k < n → p k ≡ false → q k ≡ true
    → ((i : ℕ) → i < n → p i ≡ true → q i ≡ true) → tally p n < tally q n
unfolding tally
tally-lt p q zero k l a b f = absurd (not-suc-le-zero l)
tally-lt p q (suc n) k l a b f = ⊎_elim
    (λ (e : k ≡ n). omega (
      arith,
      tally-mono p q n (λ i li. f i (omega arith)),
      bit-false (p n) (subst (λ (x : ℕ). p x ≡ false) e a),
      bit-true (q n) (subst (λ (x : ℕ). q x ≡ true) e b),
    ))
    (λ (m : k < n). omega (
      arith,
      tally-lt p q n k m a b (λ i li. f i (omega arith)),
      bit-mono (p n) (q n) (f n (omega arith)),
    ))
    (last-or-below l)

-- ---- some and none
pub tally-pos : (p : ℕ → Bool) (n k : ℕ) → k < n → p k ≡ true → 0 < tally p n
unfolding tally
tally-pos p zero k l a = absurd (not-suc-le-zero l)
tally-pos p (suc n) k l a = ⊎_elim
    (λ (e : k ≡ n). omega (arith, bit-true (p n) (subst (λ (x : ℕ). p x ≡ true) e a)))
    (λ (m : k < n). omega (arith, tally-pos p n k m a))
    (last-or-below l)

pub tally-none : (p : ℕ → Bool) (n : ℕ) → ((i : ℕ) → i < n → p i ≡ false) → tally p n ≡ 0
unfolding tally
tally-none p zero f = refl
tally-none p (suc n) f =
    omega (arith, tally-none p n (λ i l. f i (omega arith)), bit-false (p n) (f n (omega arith)))

-- the lowest number below n that passes
pub record Lowest (p : ℕ → Bool) (n : ℕ) : Type 0 where
  pub number : ℕ
  pub below : number < n
  pub passes : p number ≡ true
  pub before : (i : ℕ) → i < number → p i ≡ false

pub none-or-lowest : (p : ℕ → Bool) (n : ℕ) → ((i : ℕ) → i < n → p i ≡ false) ⊎ Lowest p n
none-or-lowest p zero = inl (λ i l. absurd (not-suc-le-zero l))
none-or-lowest p (suc n) = by_last (none-or-lowest p n) (true-or-false (p n))
  where
    by_last : ((i : ℕ) → i < n → p i ≡ false) ⊎ Lowest p n → (p n ≡ true) ⊎ (p n ≡ false)
        → ((i : ℕ) → i < suc n → p i ≡ false) ⊎ Lowest p (suc n)
    by_last (inr r) c =
        inr (record { number = r.number; below = omega (arith, r.below); passes = r.passes; before = r.before })
    by_last (inl f) (inl t) = inr (record { number = n; below = omega arith; passes = t; before = f })
    by_last (inl f) (inr e) = inl (λ i l. ⊎_elim
        (λ (q : i ≡ n). subst (λ (x : ℕ). p x ≡ false) (sym q) e) (λ m. f i m) (last-or-below l))

-- ---- what passes and what does not
bit-split : (a b : Bool) → (b ≡ true → a ≡ true) → bit (not b) ≡ bit (not a) + bit (a && not b)
unfolding bit
bit-split true true g = refl
bit-split true false g = refl
bit-split false true g = never_both (g refl) refl
bit-split false false g = refl

-- what q leaves out is what p leaves out and what q takes from p
pub tally-split : (p q : ℕ → Bool) (n : ℕ) → ((i : ℕ) → i < n → q i ≡ true → p i ≡ true)
    → tally (λ i. not (q i)) n ≡ tally (λ i. not (p i)) n + tally (λ i. p i && not (q i)) n
unfolding tally
tally-split p q zero f = refl
tally-split p q (suc n) f =
    omega (arith, tally-split p q n (λ i l. f i (omega arith)), bit-split (p n) (q n) (f n (omega arith)))

pub tally-both : (p : ℕ → Bool) (n : ℕ) → tally p n + tally (λ i. not (p i)) n ≡ n
unfolding tally
tally-both p zero = refl
tally-both p (suc n) = omega (arith, tally-both p n, bit-both (p n))
  where
    bit-both : (b : Bool) → bit b + bit (not b) ≡ 1
    bit-both b = ⊎_elim
        (λ e. omega (arith, bit-true b e, bit-false (not b) (not-of-true e)))
        (λ e. omega (arith, bit-false b e, bit-true (not b) (not_of_false e)))
        (true-or-false b)

-- ---- all
pub all-at : (p : ℕ → Bool) (n : ℕ) → all p n ≡ true → (i : ℕ) → i < n → p i ≡ true
unfolding all
all-at p n h i l = is_true (λ f. absurd (omega (
  arith,
  eqb-true (tally (λ j. not (p j)) n) 0 h,
  tally-pos (λ j. not (p j)) n i l (not_of_false f),
)))

pub all_of : (p : ℕ → Bool) (n : ℕ) → ((i : ℕ) → i < n → p i ≡ true) → all p n ≡ true
unfolding all
all_of p n h = eq-eqb (tally (λ j. not (p j)) n) 0 (tally-none (λ j. not (p j)) n (λ i l. not-of-true (h i l)))

pub all-not : (p : ℕ → Bool) (n : ℕ) → all p n ≡ false → (i : ℕ) × (i < n) × (p i ≡ false)
all-not p n h = by-lowest (none-or-lowest (λ i. not (p i)) n)
  where
    by-lowest : ((i : ℕ) → i < n → not (p i) ≡ false) ⊎ Lowest (λ i. not (p i)) n → (i : ℕ) × (i < n) × (p i ≡ false)
    by-lowest (inl f) = never_both (all_of p n (λ i l. is_true (λ e. never_both (not_of_false e) (f i l)))) h
    by-lowest (inr r) = (r.number, r.below, false_of_not r.passes)

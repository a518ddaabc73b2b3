-- Truth values and decided comparisons of numbers.
--   never_both               true and false at once proves anything
--   true-or-false            one of the two
--   is_true, is_false        by ruling out the other
--   bools-equal              equal where both ways follow
--   and_first, and_second, and_both          a conjunction and its sides
--   false_of_not, true_of_not, not_of_false, not-of-true   a negation and what it negates
--   or_cases, or_left, or_right, same_true   a disjunction and its sides; tests that are the same
--   cond-case, bool_case                     both ways of a test
--   le-or-lt, eq-or-ne, last-or-below        how two numbers stand
--   neither-below            two numbers of which neither is below the other are one
-- Assumes nothing.
use mathlib.Core.Path.{◌≡◌, refl, sym, ◌∙◌, subst}
use mathlib.Core.Logic.{◌⊎◌, inl, inr, ⊎_elim, ◌≢◌}
use mathlib.Core.Bool.{Bool, true, false, not, ◌&&◌, ◌||◌, cond, false≢true, beq}
use lib.Dec.{T}
use Prim.Native.Nat.{ℕ, suc, ◌≤◌, ◌<◌}
use native.Mathlib.Nat.{le_of_suc-le-suc, eq-or-lt_of_le}
use native.Mathlib.Omega.{arith}
use native.Mathlib.Decide.{dec_le, ℕ_discrete}

pub never_both : {A : Type 0} {b : Bool} → b ≡ true → b ≡ false → A
never_both t f = let z : ◌≡◌ {A = ℕ} 0 1 = cc in absurd (omega arith)

pub true-or-false : (b : Bool) → (b ≡ true) ⊎ (b ≡ false)
true-or-false true = inl refl
true-or-false false = inr refl

pub is_false : {b : Bool} → (b ≡ true → ⊥) → b ≡ false
is_false {b} h = ⊎_elim (λ t. absurd (h t)) (λ f. f) (true-or-false b)

pub is_true : {b : Bool} → (b ≡ false → ⊥) → b ≡ true
is_true {b} h = ⊎_elim (λ t. t) (λ f. absurd (h f)) (true-or-false b)

pub bools-equal : {a b : Bool} → (a ≡ true → b ≡ true) → (a ≡ false → b ≡ false) → a ≡ b
bools-equal {a} {b} h k = ⊎_elim (λ t. t ∙ sym (h t)) (λ f. f ∙ sym (k f)) (true-or-false a)

pub and_first : (a b : Bool) → (a && b) ≡ true → a ≡ true
and_first true b h = refl
and_first false b h = h

pub and_second : (a b : Bool) → (a && b) ≡ true → b ≡ true
and_second true b h = h
and_second false b h = never_both h refl

pub and_both : (a b : Bool) → a ≡ true → b ≡ true → (a && b) ≡ true
and_both true b p q = q
and_both false b p q = p

pub false_of_not : {b : Bool} → not b ≡ true → b ≡ false
false_of_not {b = true} h = sym h
false_of_not {b = false} h = refl

pub true_of_not : {b : Bool} → not b ≡ false → b ≡ true
true_of_not {b = true} h = refl
true_of_not {b = false} h = sym h

pub not_of_false : {b : Bool} → b ≡ false → not b ≡ true
not_of_false h = rw h

pub not-of-true : {b : Bool} → b ≡ true → not b ≡ false
not-of-true h = rw h

pub le-or-lt : (a b : ℕ) → (a ≤ b) ⊎ (b < a)
le-or-lt a b = decided (dec_le a b)
  where
    decided : Dec (a ≤ b) → (a ≤ b) ⊎ (b < a)
    decided (yes h) = inl h
    decided (no h) = inr (omega arith)

pub neither-below : (a b : ℕ) → (a < b → ⊥) → (b < a → ⊥) → a ≡ b
neither-below a b f g = ⊎_elim
    (λ l. ⊎_elim (λ m. omega arith) (λ m. absurd (f m)) (le-or-lt b a))
    (λ l. absurd (g l))
    (le-or-lt a b)

pub eq-or-ne : (a b : ℕ) → (a ≡ b) ⊎ (a ≢ b)
eq-or-ne a b = decided (ℕ_discrete a b)
  where
    decided : Dec (a ≡ b) → (a ≡ b) ⊎ (a ≢ b)
    decided (yes h) = inl h
    decided (no h) = inr h

pub last-or-below : {i n : ℕ} → i < suc n → (i ≡ n) ⊎ (i < n)
last-or-below l = eq-or-lt_of_le (le_of_suc-le-suc l)

pub or_cases : (s t : Bool) → (s || t) ≡ true → (s ≡ true) ⊎ (t ≡ true)
or_cases true t e = inl refl
or_cases false t e = inr e

pub or_left : (s t : Bool) → s ≡ true → (s || t) ≡ true
or_left true t e = refl
or_left false t e = absurd (false≢true e)

pub or_right : (s t : Bool) → t ≡ true → (s || t) ≡ true
or_right true t e = refl
or_right false t e = e

pub same_true : (s t : Bool) → beq s t ≡ true → s ≡ t
same_true true true e = refl
same_true true false e = sym e
same_true false true e = e
same_true false false e = refl

pub false-true : {A : Type 0} → false ≡ true → A
false-true e = absurd (subst T (sym e) tt)

pub one-or-none : (b : Bool) → cond b 1 0 ≤ 1
one-or-none true = omega arith
one-or-none false = omega arith

-- What holds of both ways of a test holds of what it picks.
pub cond-case :
    {A : Type 0} (P : A → Type 0) (b : Bool) (x y : A) → (b ≡ true → P x) → (b ≡ false → P y) → P (cond b x y)
cond-case P true x y f g = f refl
cond-case P false x y f g = g refl

pub bool_case : {A : Type 0} (b : Bool) → (b ≡ true → A) → (b ≡ false → A) → A
bool_case true f g = f refl
bool_case false f g = g refl

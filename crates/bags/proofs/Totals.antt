-- How many of a label a bag has in all, and which labels the bags of a part have.
--   sum-at                    a sum in which one place alone counts
--   when-yes, when-no         what `when` is where two numbers are equal, and where they are not
--   total-sum, total-copies   the total of a sum, and of copies
--   part-supported            a bag of a part has 0 of each label that the part does not name
-- Assumes nothing.
use Prim.Native.Nat.{ℕ, zero, suc, ◌+◌, ◌<◌}
use mathlib.Core.Path.{◌≡◌, refl, ◌∙◌, ap}
use mathlib.Core.Logic.{inl, inr, ⊎_elim}
use mathlib.Core.Bool.{Bool}
use native.Mathlib.Omega.{arith}
use native.Mathlib.Nat.{not-suc-le-zero}
use native.Mathlib.Decide.{ℕ_discrete}
use lib.Dec.{eqb}
use borrow.Author.Tests.{eq-eqb, ne_eqb}
use Rattle.bags.specs.Part.{Part, nothing, star, plus, optional, choice, all, link, Parts, none, more, Names}
use Rattle.bags.specs.Part.{RunNames}
use Rattle.bags.specs.Bag.{Bag, ∅, ◌⊕◌, when, copies, Language, EmptyBag, Power, Bags, BagsOfOne, BagsOfEach}
use Rattle.bags.specs.Bag.{sum_below, total}

pub when-yes : (i j n : ℕ) → i ≡ j → when (eqb i j) n ≡ n
when-yes i j n e = ap (λ (t : Bool). when t n) (eq-eqb i j e)

pub when-no : (i j n : ℕ) → (i ≡ j → ⊥) → when (eqb i j) n ≡ 0
when-no i j n d = ap (λ (t : Bool). when t n) (ne_eqb i j d)

sum-add : (n : ℕ) (f g : ℕ → ℕ) → sum_below n (λ s. f s + g s) ≡ sum_below n f + sum_below n g
sum-add zero f g = refl
sum-add (suc n) f g = omega (arith, sum-add n f g)

sum-zero : (n : ℕ) (f : ℕ → ℕ) → ((s : ℕ) → s < n → f s ≡ 0) → sum_below n f ≡ 0
sum-zero zero f h = refl
sum-zero (suc n) f h = omega (arith, sum-zero n f (λ s g. h s (omega arith)), h n (omega arith))

pub sum-at : (n : ℕ) (f : ℕ → ℕ) (u : ℕ) → ((s : ℕ) → (s ≡ u → ⊥) → f s ≡ 0) → u < n → sum_below n f ≡ f u
sum-at zero f u h g = absurd (not-suc-le-zero g)
sum-at (suc n) f u h g = last (ℕ_discrete n u) (sum-at n f u h)
  where
    last : Dec (n ≡ u) → (u < n → sum_below n f ≡ f u) → sum_below n f + f n ≡ f u
    last (yes e) r =
        let before : sum_below n f ≡ 0 = sum-zero n f (λ s k. h s (λ q. let q' : s ≡ u = q in omega arith)) in
        omega (arith, ap f e)
    last (no e) r = omega (arith, h n e, r (omega (arith, e)))

pub total-path : (S : ℕ) {x y : Bag} → x ≡ y → (k : ℕ) → total S x k ≡ total S y k
total-path S e k = ap (λ (z : Bag). total S z k) e

pub total-empty : (S k : ℕ) → total S ∅ k ≡ 0
total-empty S k = sum-zero S (∅ k) (λ s g. refl)

pub total-sum : (S : ℕ) (b x y : Bag) → b ≡ x ⊕ y → (k : ℕ) → total S b k ≡ total S x k + total S y k
total-sum S b x y e k = total-path S e k ∙ sum-add S (x k) (y k)

pub total-copies : (S n label shape : ℕ) → shape < S → total S (copies n label shape) label ≡ n
total-copies S n label shape h =
    sum-at S (copies n label shape label) shape other h ∙ when-yes label label _ refl ∙ when-yes shape shape n refl
  where
    other : (s : ℕ) → (s ≡ shape → ⊥) → copies n label shape label s ≡ 0
    other s d = when-yes label label _ refl ∙ when-no s shape n d

pub total-other : (S n label shape k : ℕ) → (k ≡ label → ⊥) → total S (copies n label shape) k ≡ 0
total-other S n label shape k d = sum-zero S (copies n label shape k) (λ s g. when-no k label _ d)

module _ (S : ℕ) where
  -- The bags of L have only the labels K.
  abbrev pub Supported : Language → (ℕ → Type 0) → Type 0
  Supported L K = (b : Bag) → L b → (k : ℕ) → (K k → ⊥) → total S b k ≡ 0

  pub empty-supported : (K : ℕ → Type 0) → Supported EmptyBag K
  empty-supported K b e k h = total-path S e k ∙ total-empty S k

  pub power-supported : (L : Language) (K : ℕ → Type 0) → Supported L K → (i : ℕ) → Supported (Power L i) K
  power-supported L K f zero b e k h = empty-supported K b e k h
  power-supported L K f (suc i) b t k h =
      let (x, y, a, c, e) = t in
      omega (arith, total-sum S b x y e k, f x a k h, power-supported L K f i y c k h)

  mutual
    pub part-supported : (p : Part) → Supported (Bags p) (Names p)
    part-supported nothing b e k h = empty-supported (Names nothing) b e k h
    part-supported (star p) b t k h = power-supported (Bags p) (Names p) (part-supported p) t.0 b t.1 k h
    part-supported (plus p) b t k h = power-supported (Bags p) (Names p) (part-supported p) t.0 b t.2 k h
    part-supported (optional p) b t k h =
        ⊎_elim (λ e. empty-supported (Names p) b e k h)
        (⊎_elim (λ a. part-supported p b a k h) (λ a. absurd a))
        t
    part-supported (choice ps) b t k h = one-supported ps b t k h
    part-supported (all ps) b t k h = each-supported ps b t k h
    part-supported (link label shape low high) b t k h = total-path S t.3 k ∙ total-other S t.0 label shape k h

    pub one-supported : (ps : Parts) → Supported (BagsOfOne ps) (RunNames ps)
    one-supported none b t k h = absurd t
    one-supported (more p ps) b t k h =
        ⊎_elim (λ a. part-supported p b a k (λ n. h (inl n))) (λ a. one-supported ps b a k (λ n. h (inr n))) t

    pub each-supported : (ps : Parts) → Supported (BagsOfEach ps) (RunNames ps)
    each-supported none b e k h = empty-supported (RunNames none) b e k h
    each-supported (more p ps) b t k h =
        let (x, y, a, c, e) = t in
        let first : total S x k ≡ 0 = part-supported p x a k (λ n. h (inl n)) in
        let rest : total S y k ≡ 0 = each-supported ps y c k (λ n. h (inr n)) in
        omega (arith, total-sum S b x y e k)

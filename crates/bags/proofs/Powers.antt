-- Sums of i bags of a language, and how they go through the operations of section 2.1.
--   bag-ext                     two bags with the same numbers are equal
--   power-map, power-add        along an inclusion; i and j of them are i + j
--   power-one, power-empty, power-no-bag   one bag; of the empty bag; of no bag
--   power-union, power-sums, power-star, power-plus   what i bags of each are made of; union-power and so on, back
-- Assumes nothing.
use Prim.Native.Nat.{ℕ, zero, suc, ◌+◌, ◌≤◌}
use mathlib.Core.Path.{◌≡◌, refl, sym, ap, fun_ext, subst}
use mathlib.Core.Logic.{inl, inr, ⊎_elim}
use native.Mathlib.Omega.{arith}
use native.Mathlib.Nat.{not-suc-le-zero}
use Rattle.bags.specs.Bag.{Bag, ∅, ◌⊕◌, Language, NoBag, EmptyBag, Union, Sums, Power, Star, Plus}

pub at-point : {x y : Bag} → x ≡ y → (k s : ℕ) → x k s ≡ y k s
at-point e k s = ap (λ (z : Bag). z k s) e

pub bag-ext : {x y : Bag} → ((k s : ℕ) → x k s ≡ y k s) → x ≡ y
bag-ext f = fun_ext (λ k. fun_ext (λ s. f k s))

-- Along an inclusion of languages.
pub power-map : (L M : Language) → ((b : Bag) → L b → M b) → (i : ℕ) (b : Bag) → Power L i b → Power M i b
power-map L M f zero b e = e
power-map L M f (suc i) b t = (t.0, t.1, f t.0 t.2, power-map L M f i t.1 t.3, t.4)

-- i bags and j bags are i + j.
power-add : (L : Language) (i j : ℕ) (x y : Bag) → Power L i x → Power L j y → Power L (i + j) (x ⊕ y)
power-add L zero j x y p q =
    let e : y ≡ x ⊕ y = bag-ext (λ k s. omega (arith, at-point p k s)) in
    let n : j ≡ zero + j = omega arith in
    subst (λ (m : ℕ). Power L m (x ⊕ y)) n (subst (Power L j) e q)
power-add L (suc i) j x y t r =
    let (u, v, h, q, e) = t in
    let p : x ⊕ y ≡ u ⊕ (v ⊕ y) = bag-ext (λ k s. omega (arith, at-point e k s)) in
    let n : suc (i + j) ≡ suc i + j = omega arith in
    subst (λ (m : ℕ). Power L m (x ⊕ y)) n (u, v ⊕ y, h, power-add L i j v y q r, p)

pub one_power : (L : Language) (b : Bag) → L b → Power L 1 b
one_power L b h = (b, ∅, h, refl, bag-ext (λ k s. omega arith))

pub power-one : (L : Language) (b : Bag) → Power L 1 b → L b
power-one L b t =
    let (x, y, h, q, e) = t in
    let p : x ≡ b = bag-ext (λ k s. omega (arith, at-point e k s, at-point q k s)) in
    subst L p h

pub empty-power : (i : ℕ) → Power EmptyBag i ∅
empty-power zero = refl
empty-power (suc i) = (∅, ∅, refl, empty-power i, refl)

pub power-no-bag : (i : ℕ) (b : Bag) → Power NoBag i b → i ≡ 0
power-no-bag zero b e = refl
power-no-bag (suc i) b t = absurd t.2

-- A choice of A and B, i times: j times A and l times B.
pub power-union : (A B : Language) (i : ℕ) (b : Bag) → Power (Union A B) i b
    → (j : ℕ) × (l : ℕ) × (j + l ≡ i) × Sums (Power A j) (Power B l) b
power-union A B zero b e = (0, 0, refl, (∅, ∅, refl, refl, e))
power-union A B (suc i) b t =
    let (x, y, h, r, e) = t in
    let (j, l, n, u) = power-union A B i y r in
    let (c, d, pc, pd, f) = u in
    let left : b ≡ (x ⊕ c) ⊕ d = bag-ext (λ k s. omega (arith, at-point e k s, at-point f k s)) in
    let right : b ≡ c ⊕ (x ⊕ d) = bag-ext (λ k s. omega (arith, at-point e k s, at-point f k s)) in
    ⊎_elim
    (λ a. (suc j, l, omega arith, (x ⊕ c, d, (x, c, a, pc, refl), pd, left)))
    (λ a. (j, suc l, omega arith, (c, x ⊕ d, pc, (x, d, a, pd, refl), right)))
    h

pub union-power : (A B : Language) (j l : ℕ) (x y : Bag) → Power A j x → Power B l y → Power (Union A B) (j + l) (x
    ⊕ y)
union-power A B j l x y p q =
    power-add (Union A B) j l x y
    (power-map A (Union A B) (λ b h. inl h) j x p)
    (power-map B (Union A B) (λ b h. inr h) l y q)

-- Sums of A and B, i times: i times A and i times B.
pub power-sums : (A B : Language) (i : ℕ) (b : Bag) → Power (Sums A B) i b → Sums (Power A i) (Power B i) b
power-sums A B zero b e = (∅, ∅, refl, refl, e)
power-sums A B (suc i) b t =
    let (z, y, h, r, e) = t in
    let (u, v, hu, hv, g) = h in
    let (c, d, pc, pd, f) = power-sums A B i y r in
    let q : b ≡ (u ⊕ c) ⊕ (v ⊕ d) = bag-ext (λ k s. omega (arith, at-point e k s, at-point f k s, at-point g k s)) in
    (u ⊕ c, v ⊕ d, (u, c, hu, pc, refl), (v, d, hv, pd, refl), q)

pub sums-power : (A B : Language) (i : ℕ) (x y : Bag) → Power A i x → Power B i y → Power (Sums A B) i (x ⊕ y)
sums-power A B zero x y p q = bag-ext (λ k s. omega (arith, at-point p k s, at-point q k s))
sums-power A B (suc i) x y p q =
    let (u, c, hu, pc, e) = p in
    let (v, d, hv, pd, f) = q in
    let g : x ⊕ y ≡ (u ⊕ v) ⊕ (c ⊕ d) = bag-ext (λ k s. omega (arith, at-point e k s, at-point f k s)) in
    (u ⊕ v, c ⊕ d, (u, v, hu, hv, refl), sums-power A B i c d pc pd, g)

-- Any number of bags of L makes one bag of its star, and with empty ones as many as are wanted.
pub star-power : (L : Language) (j : ℕ) (b : Bag) → Power L j b → (i : ℕ) → Power (Star L) (suc i) b
star-power L j b p i = (b, ∅, (j, p), empties i, bag-ext (λ k s. omega arith))
  where
    empties : (n : ℕ) → Power (Star L) n ∅
    empties zero = refl
    empties (suc n) = (∅, ∅, (0, refl), empties n, refl)

pub power-star : (L : Language) (i : ℕ) (b : Bag) → Power (Star L) i b → (j : ℕ) × Power L j b
power-star L zero b e = (0, e)
power-star L (suc i) b t =
    let (x, y, h, r, e) = t in
    let (l, q) = power-star L i y r in
    (h.0 + l, subst (Power L (h.0 + l)) (sym e) (power-add L h.0 l x y h.1 q))

-- i bags of a plus are j bags of L, for some j from i up; and where i is 1 or more, for each such j.
pub power-plus : (L : Language) (i : ℕ) (b : Bag) → Power (Plus L) i b → (j : ℕ) × (i ≤ j) × Power L j b
power-plus L zero b e = (0, omega arith, e)
power-plus L (suc i) b t =
    let (x, y, h, r, e) = t in
    let (l, g, q) = power-plus L i y r in
    let f : 1 ≤ h.0 = h.1 in
    (h.0 + l, omega arith, subst (Power L (h.0 + l)) (sym e) (power-add L h.0 l x y h.2 q))

pub plus-power : (L : Language) (i j : ℕ) (b : Bag) → suc i ≤ j → Power L j b → Power (Plus L) (suc i) b
plus-power L zero j b g p = (b, ∅, (j, g, p), refl, bag-ext (λ k s. omega arith))
plus-power L (suc i) zero b g p = absurd (not-suc-le-zero g)
plus-power L (suc i) (suc j) b g t =
    let (x, y, h, r, e) = t in
    (x, y, (1, omega arith, one_power L x h), plus-power L i j y (omega arith) r, e)

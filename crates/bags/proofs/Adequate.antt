-- The definitions of specs/ are the paper's (sections 2.1 and 3.2).
--   Same                  two languages have the same bags
--   plus-is, optional-is, optional-is-choice   the two macros of 2.1: the part and its star; nothing or the part
--   Symbol, link-is       an interval on a symbol: any of low to high sums of its one-element bag
--   union-commutes, union-associates, sums-empty, sums-commute, sums-associate, sums-distribute
--                         the order and the grouping of the parts of a choice, and of an all, do not matter
--   star-empty, star-adds, star-least   the star is the least language with the empty bag that is closed under adding a
--                         bag of the part
--   fits-any-bound        whether counts fit does not depend on the number of shapes, once every shape is below it
--   OneShape, Flattened   the expression of 3.2: for each neighbour one of the shapes that its card has
--   chosen-is-flattened   the bags of a choice of shapes are just those of that expression
--   met-is                a pair is met if the expression and the shape's part have a bag in common
-- Assumes nothing.
use Prim.Native.Nat.{ℕ, zero, suc, ◌≤◌, ◌<◌}
use mathlib.Core.Path.{◌≡◌, refl, sym, ◌∙◌, ap, subst}
use mathlib.Core.Logic.{inl, inr, ⊎_elim, ◌↔◌}
use mathlib.Core.List.{List, [], ◌∷◌}
use native.Mathlib.Omega.{arith}
use native.Mathlib.Nat.{not-suc-le-zero}
use native.Mathlib.Decide.{ℕ_discrete}
use Rattle.bags.specs.Part.{Limit, at_most, Part, nothing, star, plus, optional, choice, all, link, Parts, none}
use Rattle.bags.specs.Part.{more, ShapesBelow, RunShapesBelow}
use Rattle.bags.specs.Bag.{Bag, ∅, ◌⊕◌, copies, Language, NoBag, EmptyBag, Union, Sums, Power, Star, Under}
use Rattle.bags.specs.Bag.{Copies, Bags, BagsOfOne, BagsOfEach, total, Fits}
use Rattle.bags.specs.Choice.{Neighbour, to, Chosen, Met}
use Rattle.bags.proofs.Powers.{at-point, bag-ext, power-map}
use Rattle.bags.proofs.Copies.{power-copies, copies-power}
use Rattle.bags.proofs.Totals.{total-empty, total-path, total-sum, total-copies, total-other}

-- Two languages have the same bags.
abbrev pub Same : Language → Language → Type 0
Same A B = (b : Bag) → A b ↔ B b

-- ---- the macros of 2.1
pub plus-is : (p : Part) → Same (Bags (plus p)) (Sums (Bags p) (Star (Bags p)))
plus-is p b = (
  λ t. split t.0 t.1 t.2,
  λ t. let (x, y, h, r, e) = t in (suc r.0, omega arith, (x, y, h, r.1, e)),
)
  where
    split : (i : ℕ) → 1 ≤ i → Power (Bags p) i b → Sums (Bags p) (Star (Bags p)) b
    split zero l t = absurd (not-suc-le-zero l)
    split (suc i) l t = let (x, y, h, r, e) = t in (x, y, h, (i, r), e)

pub optional-is : (p : Part) → Same (Bags (optional p)) (Union EmptyBag (Bags p))
optional-is p b = (
  ⊎_elim (λ e. inl e) (⊎_elim (λ h. inr h) (λ never. absurd never)),
  ⊎_elim (λ e. inl e) (λ h. inr (inl h)),
)

-- The optional part is the choice of nothing and the part, as a format without it would write it.
pub optional-is-choice : (p : Part) → Bags (optional p) ≡ Bags (choice (more nothing (more p none)))
optional-is-choice p = refl

-- The language of a symbol: its one-element bag.
abbrev pub Symbol : ℕ → ℕ → Language
Symbol label shape b = b ≡ copies 1 label shape

pub link-is : (label shape low : ℕ) (high : Limit)
    → Same (Bags (link label shape low high)) (λ b. (i : ℕ) × (low ≤ i) × Under i high × Power (Symbol label shape)
    i b)
link-is label shape low high b = (
  λ t. let (n, l, u, e) = t in (n, l, u, subst (Power (Symbol label shape) n) (sym e) (powers n)),
  λ t. let (n, l, u, q) = t in (n, l, u, copied n b q),
)
  where
    -- the symbol as a link of just one
    One : Language
    One = Copies label shape 1 (at_most 1)

    one_symbol : (c : Bag) → One c → Symbol label shape c
    one_symbol c t =
        let (n, l, u, e) = t in
        let one : n ≡ 1 = omega arith in
        e ∙ ap (λ (z : ℕ). copies z label shape) one

    powers : (n : ℕ) → Power (Symbol label shape) n (copies n label shape)
    powers n =
        power-map One (Symbol label shape) one_symbol n (copies n label shape)
        (copies-power label shape 1 (at_most 1) n n (omega arith) (omega arith))

    copied : (n : ℕ) (c : Bag) → Power (Symbol label shape) n c → c ≡ copies n label shape
    copied n c q =
        let (m, l, u, e) = power-copies label shape 1 (at_most 1) n c
        (power-map (Symbol label shape) One (λ d f. (1, omega arith, omega arith, f)) n c q) in
        let same : m ≡ n = omega arith in
        e ∙ ap (λ (z : ℕ). copies z label shape) same

-- ---- the laws of unions and sums
pub union-commutes : (A B : Language) → Same (Union A B) (Union B A)
union-commutes A B b = (⊎_elim (λ h. inr h) (λ h. inl h), ⊎_elim (λ h. inr h) (λ h. inl h))

pub union-associates : (A B C : Language) → Same (Union (Union A B) C) (Union A (Union B C))
union-associates A B C b = (
  ⊎_elim (⊎_elim (λ h. inl h) (λ h. inr (inl h))) (λ h. inr (inr h)),
  ⊎_elim (λ h. inl (inl h)) (⊎_elim (λ h. inl (inr h)) (λ h. inr h)),
)

pub sums-empty : (A : Language) → Same (Sums EmptyBag A) A
sums-empty A b = (
  λ t.
      let (x, y, e, h, f) = t in
      subst A (bag-ext (λ k s. omega (arith, at-point e k s, at-point f k s))) h,
  λ h. (∅, b, refl, h, bag-ext (λ k s. omega arith)),
)

pub sums-commute : (A B : Language) → Same (Sums A B) (Sums B A)
sums-commute A B b = (
  λ t. let (x, y, h, g, e) = t in (y, x, g, h, bag-ext (λ k s. omega (arith, at-point e k s))),
  λ t. let (x, y, h, g, e) = t in (y, x, g, h, bag-ext (λ k s. omega (arith, at-point e k s))),
)

pub sums-associate : (A B C : Language) → Same (Sums (Sums A B) C) (Sums A (Sums B C))
sums-associate A B C b = (
  λ t.
      let (w, z, h, c, e) = t in
      let (x, y, f, g, d) = h in
      (x, y ⊕ z, f, (y, z, g, c, refl), bag-ext (λ k s. omega (arith, at-point e k s, at-point d k s))),
  λ t.
      let (x, w, f, h, e) = t in
      let (y, z, g, c, d) = h in
      (x ⊕ y, z, (x, y, f, g, refl), c, bag-ext (λ k s. omega (arith, at-point e k s, at-point d k s))),
)

pub sums-distribute : (A B C : Language) → Same (Sums A (Union B C)) (Union (Sums A B) (Sums A C))
sums-distribute A B C b = (
  λ t.
      let (x, y, f, h, e) = t in
      ⊎_elim (λ g. inl (x, y, f, g, e)) (λ g. inr (x, y, f, g, e)) h,
  ⊎_elim
      (λ t. let (x, y, f, g, e) = t in (x, y, f, inl g, e))
      (λ t. let (x, y, f, g, e) = t in (x, y, f, inr g, e)),
)

module _ (L : Language) where
  pub star-empty : Star L ∅
  star-empty = (0, refl)

  pub star-adds : (x y : Bag) → L x → Star L y → Star L (x ⊕ y)
  star-adds x y h t = (suc t.0, (x, y, h, t.1, refl))

  -- Every language that has the empty bag and takes in a bag of L has the bags of the star.
  pub star-least : (M : Language) → M ∅ → ((x y : Bag) → L x → M y → M (x ⊕ y)) → (b : Bag) → Star L b → M b
  star-least M base step b t = each t.0 b t.1
    where
      each : (i : ℕ) (c : Bag) → Power L i c → M c
      each zero c e = subst M (sym e) base
      each (suc i) c t = let (x, y, h, r, e) = t in subst M (sym e) (step x y h (each i y r))

-- ---- the number of shapes
module _ (S T : ℕ) where
  -- The bags of L have the same totals over the shapes below S as over those below T.
  abbrev SameTotals : Language → Type 0
  SameTotals L = (b : Bag) → L b → (k : ℕ) → total S b k ≡ total T b k

  empty-totals : SameTotals EmptyBag
  empty-totals b e k = total-path S e k ∙ total-empty S k ∙ sym (total-empty T k) ∙ sym (total-path T e k)

  sums-totals : (A B : Language) → SameTotals A → SameTotals B → SameTotals (Sums A B)
  sums-totals A B f g b t k =
      let (x, y, a, c, e) = t in
      omega (arith, total-sum S b x y e k, total-sum T b x y e k, f x a k, g y c k)

  power-totals : (L : Language) → SameTotals L → (i : ℕ) → SameTotals (Power L i)
  power-totals L f zero b e k = empty-totals b e k
  power-totals L f (suc i) b t k = sums-totals L (Power L i) f (power-totals L f i) b t k

  copies-totals : (label shape low : ℕ) (high : Limit) → shape < S → shape < T
      → SameTotals (Copies label shape low high)
  copies-totals label shape low high l m b t k =
      let (n, lo, hi, e) = t in
      total-path S e k ∙ either n (ℕ_discrete k label) ∙ sym (total-path T e k)
    where
      either : (n : ℕ) → Dec (k ≡ label) → total S (copies n label shape) k ≡ total T (copies n label shape) k
      either n (yes e) =
          ap (total S (copies n label shape)) e ∙ total-copies S n label shape l ∙ sym (total-copies T n label shape m)
          ∙ sym (ap (total T (copies n label shape)) e)
      either n (no d) = total-other S n label shape k d ∙ sym (total-other T n label shape k d)

  mutual
    part-totals : (p : Part) → ShapesBelow S p → ShapesBelow T p → SameTotals (Bags p)
    part-totals nothing l m b e k = empty-totals b e k
    part-totals (star p) l m b t k = power-totals (Bags p) (λ c h j. part-totals p l m c h j) t.0 b t.1 k
    part-totals (plus p) l m b t k = power-totals (Bags p) (λ c h j. part-totals p l m c h j) t.0 b t.2 k
    part-totals (optional p) l m b t k =
        ⊎_elim (λ e. empty-totals b e k) (⊎_elim (λ h. part-totals p l m b h k) (λ h. absurd h)) t
    part-totals (choice ps) l m b t k = one-totals ps l m b t k
    part-totals (all ps) l m b t k = each-totals ps l m b t k
    part-totals (link label shape low high) l m b t k = copies-totals label shape low high l m b t k

    one-totals : (ps : Parts) → RunShapesBelow S ps → RunShapesBelow T ps → SameTotals (BagsOfOne ps)
    one-totals none l m b t k = absurd t
    one-totals (more p ps) l m b t k =
        ⊎_elim (λ h. part-totals p l.0 m.0 b h k) (λ h. one-totals ps l.1 m.1 b h k) t

    each-totals : (ps : Parts) → RunShapesBelow S ps → RunShapesBelow T ps → SameTotals (BagsOfEach ps)
    each-totals none l m b e k = empty-totals b e k
    each-totals (more p ps) l m b t k =
        sums-totals (Bags p) (BagsOfEach ps) (λ c h j. part-totals p l.0 m.0 c h j)
        (λ c h j. each-totals ps l.1 m.1 c h j) b t k

  -- Whether counts fit is a matter of the part and the counts alone.
  pub fits-any-bound : (p : Part) → ShapesBelow S p → ShapesBelow T p → (counts : ℕ → ℕ)
      → Fits S p counts ↔ Fits T p counts
  fits-any-bound p l m counts = (
    λ f. let (b, h, a) = f in (b, h, λ k. sym (part-totals p l m b h k) ∙ a k),
    λ f. let (b, h, a) = f in (b, h, λ k. part-totals p l m b h k ∙ a k),
  )

-- ---- flattenings (3.2)
-- The union, over the shapes below S that a card has, of the bags of one (label, shape).
abbrev pub OneShape : ℕ → (ℕ → Type 0) → ℕ → Language
OneShape zero has label = NoBag
OneShape (suc S) has label = Union (OneShape S has label) (λ b. has S × Symbol label S b)

-- The sums of one such bag for each neighbour, as often as it is seen.
abbrev pub Flattened : ℕ → (ℕ → ℕ → Type 0) → List Neighbour → Language
Flattened S has [] = EmptyBag
Flattened S has (to label far ∷ ns) = Sums (OneShape S (has far) label) (Flattened S has ns)

one-shape-is : (S : ℕ) (has : ℕ → Type 0) (label : ℕ)
    → Same (OneShape S has label) (λ b. (s : ℕ) × (s < S) × has s × Symbol label s b)
one-shape-is zero has label b = (λ never. absurd never, λ t. absurd (not-suc-le-zero t.1))
one-shape-is (suc S) has label b = (
  ⊎_elim
      (λ t. let (s, l, h, e) = (one-shape-is S has label b).0 t in (s, omega arith, h, e))
      (λ t. (S, omega arith, t.0, t.1)),
  λ t. let (s, l, h, e) = t in last s l h e (ℕ_discrete s S) (λ d. (one-shape-is S has label b).1 (s, d, h, e)),
)
  where
    last : (s : ℕ) → s < suc S → has s → Symbol label s b → Dec (s ≡ S)
        → (s < S → OneShape S has label b) → OneShape (suc S) has label b
    last s l h e (yes q) below = inr (subst has q h, subst (λ (z : ℕ). Symbol label z b) q e)
    last s l h e (no d) below = inl (below (omega (arith, d)))

module _ (S : ℕ) (has : ℕ → ℕ → Type 0) where
  pub chosen-is-flattened : (ns : List Neighbour) → Same (Chosen S has ns) (Flattened S has ns)
  chosen-is-flattened [] b = (λ e. e, λ e. e)
  chosen-is-flattened (to label far ∷ ns) b = (
    λ t.
        let (s, l, h, u) = t in
        let (c, q, e) = u in (
          copies 1 label s,
          c,
          (one-shape-is S (has far) label (copies 1 label s)).1 (s, l, h, refl),
          (chosen-is-flattened ns c).0 q,
          e,
        ),
    λ t.
        let (x, y, o, f, e) = t in
        let (s, l, h, d) = (one-shape-is S (has far) label x).0 o in
        (s, l, h, (y, (chosen-is-flattened ns y).1 f, subst (λ (z : Bag). b ≡ z ⊕ y) d e)),
  )

  -- Rule 2 of 3.2: some flattening is a bag of the part.
  pub met-is : (ns : List Neighbour) (p : Part)
      → Met S has ns p ↔ ((b : Bag) × Flattened S has ns b × Bags p b)
  met-is ns p = (
    λ t. let (b, c, h) = t in (b, (chosen-is-flattened ns b).0 c, h),
    λ t. let (b, c, h) = t in (b, (chosen-is-flattened ns b).1 c, h),
  )

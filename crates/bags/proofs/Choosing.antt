-- When a card's neighbours meet a part with no label twice (Proposition 8.1 of the paper).
--   OnlyAt, part-only    a bag of a part has only what the part declares
--   same-bag             two such bags with the same counts are equal
--   chosen-counts        a chosen bag has the neighbours' counts
--   choose               the bag of the declared shapes
--   met-exact            met exactly when the counts fit and each neighbour has the shape declared for its label
-- Assumes nothing.
use Prim.Native.Nat.{ℕ, zero, suc, ◌<◌}
use mathlib.Core.Path.{◌≡◌, refl, sym, ◌∙◌, ap, subst}
use mathlib.Core.Logic.{◌⊎◌, inl, inr, ⊎_elim, ◌↔◌}
use mathlib.Core.List.{List, [], ◌∷◌}
use native.Mathlib.Omega.{arith}
use native.Mathlib.Decide.{ℕ_discrete}
use lib.Dec.{eqb}
use Rattle.bags.specs.Part.{Part, nothing, star, plus, optional, choice, all, link, Parts, none, more, Declares}
use Rattle.bags.specs.Part.{RunDeclares, Single, ShapesBelow}
use Rattle.bags.specs.Bag.{Bag, ∅, ◌⊕◌, when, copies, Language, Power, Bags, BagsOfOne, BagsOfEach, total, Fits}
use Rattle.bags.specs.Choice.{Neighbour, to, Chosen, Met}
use Rattle.bags.specs.Proposition.{label_count, TargetsHave}
use Rattle.bags.proofs.Powers.{at-point, bag-ext}
use Rattle.bags.proofs.Totals.{when-yes, when-no, sum-at, total-empty, total-path, total-sum, total-copies}
use Rattle.bags.proofs.Totals.{total-other}
use Rattle.bags.proofs.Naming.{declares-below, declares-unique}

-- The bag has (k, s) only where D says so.
abbrev OnlyAt : (ℕ → ℕ → Type 0) → Bag → Type 0
OnlyAt D b = (k s : ℕ) → (b k s ≡ 0) ⊎ D k s

only-more : (D E : ℕ → ℕ → Type 0) → ((k s : ℕ) → D k s → E k s) → (b : Bag) → OnlyAt D b → OnlyAt E b
only-more D E f b o k s = ⊎_elim (λ e. inl e) (λ d. inr (f k s d)) (o k s)

only-empty : (D : ℕ → ℕ → Type 0) (b : Bag) → b ≡ ∅ → OnlyAt D b
only-empty D b e k s = inl (at-point e k s)

only_sum : (D : ℕ → ℕ → Type 0) (b x y : Bag) → OnlyAt D x → OnlyAt D y → b ≡ x ⊕ y → OnlyAt D b
only_sum D b x y o r e k s = either (o k s) (r k s)
  where
    either : (x k s ≡ 0) ⊎ D k s → (y k s ≡ 0) ⊎ D k s → (b k s ≡ 0) ⊎ D k s
    either (inl p) (inl q) = inl (omega (arith, at-point e k s))
    either (inl p) (inr d) = inr d
    either (inr d) q = inr d

only-power : (L : Language) (D : ℕ → ℕ → Type 0) → ((b : Bag) → L b → OnlyAt D b)
    → (i : ℕ) (b : Bag) → Power L i b → OnlyAt D b
only-power L D o zero b e = only-empty D b e
only-power L D o (suc i) b t =
    let (x, y, h, r, e) = t in
    only_sum D b x y (o x h) (only-power L D o i y r) e

only-copies : (n label shape : ℕ) → OnlyAt (λ k s. (k ≡ label) × (s ≡ shape)) (copies n label shape)
only-copies n label shape k s = either (ℕ_discrete k label) (ℕ_discrete s shape)
  where
    either : Dec (k ≡ label) → Dec (s ≡ shape) → (copies n label shape k s ≡ 0) ⊎ ((k ≡ label) × (s ≡ shape))
    either (yes e) (yes f) = inr (e, f)
    either (yes e) (no f) = inl (when-yes k label _ e ∙ when-no s shape n f)
    either (no e) d = inl (when-no k label _ e)

mutual
  part-only : (p : Part) (b : Bag) → Bags p b → OnlyAt (Declares p) b
  part-only nothing b e = only-empty (Declares nothing) b e
  part-only (star p) b t = only-power (Bags p) (Declares p) (λ c h. part-only p c h) t.0 b t.1
  part-only (plus p) b t = only-power (Bags p) (Declares p) (λ c h. part-only p c h) t.0 b t.2
  part-only (optional p) b t =
      ⊎_elim (λ e. only-empty (Declares p) b e) (⊎_elim (λ h. part-only p b h) (λ h. absurd h)) t
  part-only (choice ps) b t = one_only ps b t
  part-only (all ps) b t = each-only ps b t
  part-only (link label shape low high) b t =
      λ k s. ⊎_elim (λ e. inl (at-point t.3 k s ∙ e)) (λ d. inr d) (only-copies t.0 label shape k s)

  one_only : (ps : Parts) (b : Bag) → BagsOfOne ps b → OnlyAt (RunDeclares ps) b
  one_only none b t = absurd t
  one_only (more p ps) b t =
      ⊎_elim
      (λ h. only-more (Declares p) (RunDeclares (more p ps)) (λ m n d. inl d) b (part-only p b h))
      (λ h. only-more (RunDeclares ps) (RunDeclares (more p ps)) (λ m n d. inr d) b (one_only ps b h))
      t

  each-only : (ps : Parts) (b : Bag) → BagsOfEach ps b → OnlyAt (RunDeclares ps) b
  each-only none b e = only-empty (RunDeclares none) b e
  each-only (more p ps) b t =
      let (x, y, h, g, e) = t in
      only_sum (RunDeclares (more p ps)) b x y
      (only-more (Declares p) (RunDeclares (more p ps)) (λ m n d. inl d) x (part-only p x h))
      (only-more (RunDeclares ps) (RunDeclares (more p ps)) (λ m n d. inr d) y (each-only ps y g))
      e

same-bag : (S : ℕ) (p : Part) → Single p → ShapesBelow S p → (x y : Bag) → OnlyAt (Declares p) x → OnlyAt (Declares
    p) y
    → ((k : ℕ) → total S x k ≡ total S y k) → x ≡ y
same-bag S p one below x y f g e = bag-ext (λ k s. either k s (f k s) (g k s))
  where
    at-declared : (z : Bag) → OnlyAt (Declares p) z → (k s : ℕ) → Declares p k s → total S z k ≡ z k s
    at-declared z o k s d =
        sum-at S (z k) s
        (λ r n. ⊎_elim (λ q. q) (λ q. absurd (n (declares-unique p one k r s q d))) (o k r))
        (declares-below S p below k s d)

    equal : (k s : ℕ) → Declares p k s → x k s ≡ y k s
    equal k s d = sym (at-declared x f k s d) ∙ e k ∙ at-declared y g k s d

    either : (k s : ℕ) → (x k s ≡ 0) ⊎ Declares p k s → (y k s ≡ 0) ⊎ Declares p k s → x k s ≡ y k s
    either k s (inr d) q = equal k s d
    either k s (inl a) (inr d) = equal k s d
    either k s (inl a) (inl b) = a ∙ sym b

module _ (S : ℕ) (has : ℕ → ℕ → Type 0) where
  total-one : (label s k : ℕ) → s < S → total S (copies 1 label s) k ≡ when (eqb k label) 1
  total-one label s k h = either (ℕ_discrete k label)
    where
      either : Dec (k ≡ label) → total S (copies 1 label s) k ≡ when (eqb k label) 1
      either (yes e) =
          ap (total S (copies 1 label s)) e ∙ total-copies S 1 label s h ∙ sym (when-yes k label 1 e)
      either (no d) = total-other S 1 label s k d ∙ sym (when-no k label 1 d)

  chosen-counts : (ns : List Neighbour) (b : Bag) → Chosen S has ns b → (k : ℕ) → total S b k ≡ label_count ns k
  chosen-counts [] b e k = total-path S e k ∙ total-empty S k
  chosen-counts (to label far ∷ ns) b t k =
      let (s, h, g, u) = t in
      let (c, q, e) = u in
      omega (arith, total-sum S b (copies 1 label s) c e k, total-one label s k h, chosen-counts ns c q k)

  module _ (p : Part) where
    -- In a chosen bag that has only what the part declares, each chosen shape is the declared one.
    chosen-targets : (ns : List Neighbour) (b : Bag) → Chosen S has ns b → OnlyAt (Declares p) b → TargetsHave has ns p
    chosen-targets [] b e o = tt
    chosen-targets (to label far ∷ ns) b t o =
        let (s, h, g, u) = t in
        let (c, q, e) = u in (
          (s, declared s c e (o label s), g),
          chosen-targets ns c q (λ k r. ⊎_elim (λ z. inl (omega (arith, at-point e k r))) (λ d. inr d) (o k r)),
        )
      where
        declared : (s : ℕ) (c : Bag) → b ≡ copies 1 label s ⊕ c → (b label s ≡ 0) ⊎ Declares p label s
            → Declares p label s
        declared s c e (inr d) = d
        declared s c e (inl z) =
            let f : copies 1 label s label s ≡ 1 = when-yes label label _ refl ∙ when-yes s s 1 refl in
            let g : ⊥ = omega (arith, at-point e label s) in
            absurd g

    choose : ShapesBelow S p → (ns : List Neighbour) → TargetsHave has ns p
        → (b : Bag) × Chosen S has ns b × OnlyAt (Declares p) b
    choose below [] t = (∅, refl, λ k s. inl refl)
    choose below (to label far ∷ ns) t =
        let (u, v) = t in
        let (s, d, g) = u in
        let (c, q, o) = choose below ns v in
        let one : OnlyAt (Declares p) (copies 1 label s) = only-declared s d in (
          copies 1 label s ⊕ c,
          (s, declares-below S p below label s d, g, (c, q, refl)),
          only_sum (Declares p) (copies 1 label s ⊕ c) (copies 1 label s) c one o refl,
        )
      where
        moved : (m n s : ℕ) → (m ≡ label) × (n ≡ s) → Declares p label s → Declares p m n
        moved m n s f d = subst (λ (z : ℕ). Declares p z n) (sym f.0) (subst (Declares p label) (sym f.1) d)

        only-declared : (s : ℕ) → Declares p label s → OnlyAt (Declares p) (copies 1 label s)
        only-declared s d =
            only-more (λ m n. (m ≡ label) × (n ≡ s)) (Declares p) (λ m n f. moved m n s f d) (copies 1 label s)
            (only-copies 1 label s)

pub met-exact : (S : ℕ) (has : ℕ → ℕ → Type 0) (ns : List Neighbour) (p : Part) → Single p → ShapesBelow S p
    → Met S has ns p ↔ (Fits S p (label_count ns) × TargetsHave has ns p)
met-exact S has ns p one below = (
  λ m.
      let (b, c, h) = m in
      ((b, h, chosen-counts S has ns b c), chosen-targets S has p ns b c (part-only p b h)),
  λ g.
      let (f, t) = g in
      let (b, h, a) = f in
      let (c, q, o) = choose S has p below ns t in
      let e : b ≡ c = same-bag S p one below b c (part-only p b h) o (λ k. a k ∙ sym (chosen-counts S has ns c q k)) in
      (c, q, subst (Bags p) e h),
)

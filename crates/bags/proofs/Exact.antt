-- The interval of a part has exactly the numbers i for which the counts of its labels are a sum of i of its bags.
--   part-proper          the interval of a part is proper
--   interval-exact       the law of section 8.2, for parts with no label twice
--   fits-exact           counts fit exactly where 1 is in the interval and the labels not named count 0
-- Assumes nothing.
use Prim.Native.Nat.{ℕ}
use mathlib.Core.Path.{◌≡◌, refl, sym, ◌∙◌, ap}
use mathlib.Core.Logic.{◌⊎◌, inl, inr, ⊎_elim, ◌↔◌}
use mathlib.Core.Bool.{Bool, true, false, true≢false}
use native.Mathlib.Omega.{arith}
use borrow.Author.Tests.{eq-eqb, eqb-true}
use Rattle.bags.specs.Part.{Part, nothing, star, plus, optional, choice, all, link, Parts, none, more, Names}
use Rattle.bags.specs.Part.{RunNames, Single, RunSingle, ShapesBelow, RunShapesBelow}
use Rattle.bags.specs.Bag.{Bag, EmptyBag, Union, Bags, BagsOfOne, BagsOfEach, total, Fits}
use Rattle.bags.specs.Interval.{Interval, empty, within, from, In, add, star_interval, plus_interval, all_zero}
use Rattle.bags.specs.Interval.{run_all_zero, interval, add_run, meet_run}
use Rattle.words.proofs.Bools.{and_first, and_second, and_both}
use Rattle.bags.proofs.Powers.{power-one, one_power}
use Rattle.bags.proofs.Totals.{empty-supported, part-supported, one-supported, each-supported}
use Rattle.bags.proofs.Naming.{names-dec}
use Rattle.bags.proofs.Intervals.{Proper, range-proper, link-proper, meet-proper, add-proper}
use Rattle.bags.proofs.Repetitions.{Zero, Exact, exact_same, exact-empty, exact-no-bag, exact-union}
use Rattle.bags.proofs.Repetitions.{exact-sums, exact-star, exact-plus, exact-link}

star-proper : (t : Bool) (I : Interval) → Proper (star_interval t I)
star-proper true I = tt
star-proper false empty = tt
star-proper false (within lo hi) = tt
star-proper false (from lo) = tt

plus-proper : (t : Bool) (I : Interval) → Proper I → Proper (plus_interval t I)
plus-proper true I p = p
plus-proper false empty p = tt
plus-proper false (within lo hi) p = range-proper 1 hi
plus-proper false (from lo) p = tt

module _ (w : ℕ → ℕ) where
  mutual
    all-zero : (p : Part) → all_zero p w ≡ true → Zero w (Names p)
    all-zero nothing e k n = absurd n
    all-zero (star p) e k n = all-zero p e k n
    all-zero (plus p) e k n = all-zero p e k n
    all-zero (optional p) e k n = all-zero p e k n
    all-zero (choice ps) e k n = run-zero ps e k n
    all-zero (all ps) e k n = run-zero ps e k n
    all-zero (link label shape low high) e k n = ap w n ∙ eqb-true (w label) 0 e

    run-zero : (ps : Parts) → run_all_zero ps w ≡ true → Zero w (RunNames ps)
    run-zero none e k n = absurd n
    run-zero (more p ps) e k n =
        ⊎_elim (λ m. all-zero p (and_first (all_zero p w) (run_all_zero ps w) e) k m)
        (λ m. run-zero ps (and_second (all_zero p w) (run_all_zero ps w) e) k m)
        n

  mutual
    zero-all : (p : Part) → Zero w (Names p) → all_zero p w ≡ true
    zero-all nothing z = refl
    zero-all (star p) z = zero-all p z
    zero-all (plus p) z = zero-all p z
    zero-all (optional p) z = zero-all p z
    zero-all (choice ps) z = zero-run ps z
    zero-all (all ps) z = zero-run ps z
    zero-all (link label shape low high) z = eq-eqb (w label) 0 (z label refl)

    zero-run : (ps : Parts) → Zero w (RunNames ps) → run_all_zero ps w ≡ true
    zero-run none z = refl
    zero-run (more p ps) z =
        and_both (all_zero p w) (run_all_zero ps w) (zero-all p (λ k n. z k (inl n))) (zero-run ps (λ k n. z k (inr
        n)))

  mutual
    pub part-proper : (p : Part) → Proper (interval p w)
    part-proper nothing = tt
    part-proper (star p) = star-proper (all_zero p w) (interval p w)
    part-proper (plus p) = plus-proper (all_zero p w) (interval p w) (part-proper p)
    part-proper (optional p) = add-proper (from 0) (interval p w) tt (part-proper p)
    part-proper (choice ps) = add-run-proper ps
    part-proper (all ps) = meet-run-proper ps
    part-proper (link label shape low high) = link-proper (w label) low high

    pub add-run-proper : (ps : Parts) → Proper (add_run ps w)
    add-run-proper none = omega arith
    add-run-proper (more p ps) = add-proper (interval p w) (add_run ps w) (part-proper p) (add-run-proper ps)

    meet-run-proper : (ps : Parts) → Proper (meet_run ps w)
    meet-run-proper none = tt
    meet-run-proper (more p ps) = meet-proper (interval p w) (meet_run ps w) (part-proper p) (meet-run-proper ps)

  module _ (S : ℕ) where
    not-zero : (p : Part) → all_zero p w ≡ false → Zero w (Names p) → ⊥
    not-zero p e z = true≢false (sym (zero-all p z) ∙ e)

    -- A choice of nothing and the part, without the end of its run.
    optional-same : (p : Part) (b : Bag) → Union EmptyBag (Bags p) b ↔ Bags (optional p) b
    optional-same p b = (
      ⊎_elim (λ e. inl e) (λ h. inr (inl h)),
      ⊎_elim (λ e. inl e) (⊎_elim (λ h. inr h) (λ h. absurd h)),
    )

    abbrev ExactPart : Part → Type 0
    ExactPart p = Exact w S (interval p w) (Bags p) (Names p)

    exact-optional : (p : Part) → ExactPart p → ExactPart (optional p)
    exact-optional p e =
        exact_same w S (add (from 0) (interval p w)) (Union EmptyBag (Bags p)) (Bags (optional p))
        (λ k. ⊥ ⊎ Names p k) (Names p)
        (optional-same p) (λ k. (⊎_elim (λ n. absurd n) (λ n. n), λ n. inr n))
        (exact-union w S EmptyBag (Bags p) (λ k. ⊥) (Names p) (λ k n m. n)
        (empty-supported S (λ k. ⊥)) (part-supported S p)
        (from 0) (interval p w) (exact-empty w S (λ k. ⊥) (λ k n. n)) e tt (part-proper p))

    mutual
      pub interval-exact : (p : Part) → Single p → ShapesBelow S p → Exact w S (interval p w) (Bags p) (Names p)
      interval-exact nothing u s = exact-empty w S (Names nothing) (λ k n. n)
      interval-exact (star p) u s =
          exact-star w S (Bags p) (Names p) (interval p w) (part-proper p) (interval-exact p u s)
          (all_zero p w) (all-zero p) (not-zero p)
      interval-exact (plus p) u s =
          exact-plus w S (Bags p) (Names p) (interval p w) (part-proper p) (interval-exact p u s)
          (all_zero p w) (all-zero p) (not-zero p)
      interval-exact (optional p) u s = exact-optional p (interval-exact p u s)
      interval-exact (choice ps) u s = add-run-exact ps u s
      interval-exact (all ps) u s = meet-run-exact ps u s
      interval-exact (link label shape low high) u s = exact-link w S label shape low high s

      add-run-exact : (ps : Parts) → RunSingle ps → RunShapesBelow S ps
          → Exact w S (add_run ps w) (BagsOfOne ps) (RunNames ps)
      add-run-exact none u s = exact-no-bag w S (RunNames none) (λ k n. n)
      add-run-exact (more p ps) u s =
          exact-union w S (Bags p) (BagsOfOne ps) (Names p) (RunNames ps) u.2
          (part-supported S p) (one-supported S ps)
          (interval p w) (add_run ps w) (interval-exact p u.0 s.0) (add-run-exact ps u.1 s.1)
          (part-proper p) (add-run-proper ps)

      meet-run-exact : (ps : Parts) → RunSingle ps → RunShapesBelow S ps
          → Exact w S (meet_run ps w) (BagsOfEach ps) (RunNames ps)
      meet-run-exact none u s = exact-empty w S (RunNames none) (λ k n. n)
      meet-run-exact (more p ps) u s =
          exact-sums w S (Bags p) (BagsOfEach ps) (Names p) (RunNames ps) u.2
          (part-supported S p) (each-supported S ps)
          (interval p w) (meet_run ps w) (interval-exact p u.0 s.0) (meet-run-exact ps u.1 s.1)

pub fits-exact : (S : ℕ) (p : Part) (w : ℕ → ℕ) → Single p → ShapesBelow S p
    → Fits S p w ↔ (In 1 (interval p w) × ((k : ℕ) → (Names p k → ⊥) → w k ≡ 0))
fits-exact S p w u s = (
  λ f.
      let (b, h, a) = f in (
        (interval-exact w S p u s 1).1 (b, one_power (Bags p) b h, λ k n. a k),
        λ k n. sym (a k) ∙ part-supported S p b h k n,
      ),
  λ g.
      let (h, z) = g in
      let (b, q, a) = (interval-exact w S p u s 1).0 h in
      let m : Bags p b = power-one (Bags p) b q in
      (b, m, λ k. counted b m a z k (names-dec p k)),
)
  where
    counted : (b : Bag) → Bags p b → ((k : ℕ) → Names p k → total S b k ≡ w k) → ((k : ℕ) → (Names p k → ⊥) → w k ≡ 0)
        → (k : ℕ) → Dec (Names p k) → total S b k ≡ w k
    counted b m a z k (yes n) = a k n
    counted b m a z k (no n) = part-supported S p b m k n ∙ sym (z k n)

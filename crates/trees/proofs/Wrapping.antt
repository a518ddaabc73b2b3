-- The wrappers that a part starts with, code by code.
-- effect-none, effect-more   what no wrapper makes of the core's interval, and one more
-- FrontTo       the wrappers up to a place; front-start, front-more, front-stops: from the first to the last
-- core_at, core-same   where the core of a part within words starts, and that it is the one known
-- core-fitted   whether 1 is in the interval of a part, from its core's
-- core-names    a part names what its core names
-- Assumes nothing.
use Prim.Native.Nat.{ℕ, zero, suc, ◌+◌, ◌-◌, ◌≤◌, ◌<◌}
use mathlib.Core.Path.{◌≡◌, refl, sym, ap, ap₂, subst, ◌∙◌}
use mathlib.Core.Bool.{Bool, false, ◌||◌, not}
use mathlib.Core.Logic.{⊎_elim}
use mathlib.Core.List.{List}
use native.Mathlib.Omega.{arith}
use native.Mathlib.Numerals.{add-one}
use lib.ListN.{length, get_or}
use lib.Dec.{eqb}
use Rattle.words.proofs.Bools.{cond-case, last-or-below, le-or-lt, eq-or-ne}
use Rattle.bags.specs.Part.{Part, names}
use Rattle.bags.specs.Interval.{inside, all_zero, interval, wrap_interval}
use Rattle.bags.specs.Span.{view}
use Rattle.bags.specs.declared.Span.{Span}
use Rattle.bags.proofs.Exact.{part-proper}
use Rattle.bags.proofs.Zeros.{all-zero-test}
use Rattle.bags.proofs.Joining.{wrap-star, wrap-plus, wrap-optional, wrap-none, wrap-twice}
use Rattle.parts.specs.Reading.{Code, wrapped}
use Rattle.parts.specs.Placed.{Placed, onto}
use Rattle.parts.proofs.Codes.{code-single}
use Rattle.trees.specs.declared.Front.{Front}
use Rattle.trees.specs.Trees.{tree_at}
use Rattle.trees.specs.Wrappers.{WrapAsked, CoreAt, Effect, FrontOf}
use Rattle.trees.proofs.Places.{tree-by}

-- ---- what wrappers make of an interval
-- A star and a plus lower it, a star and an optional free it of its limit.
single-wrapped : (code : ℕ) → 1 ≤ code → code ≤ 3 → (p : Part) (w : ℕ → ℕ) →
    interval (wrapped code p) w ≡ wrap_interval (not (eqb code 3)) (not (eqb code 2)) (interval p w)
single-wrapped code a b p w = ⊎_elim
    (λ (e : code ≡ 1). rw e (wrap-star (all_zero p w) (interval p w) (all-zero-test p w)))
    (λ first. ⊎_elim
    (λ (e : code ≡ 2). rw e (wrap-plus (all_zero p w) (interval p w) (part-proper w p) (all-zero-test p w)))
    (λ second.
    let e : code ≡ 3 = omega (arith, first, second) in
    rw e (wrap-optional (interval p w)))
    (eq-or-ne code 2))
    (eq-or-ne code 1)

module _ (words : List ℕ) (start : ℕ) where
  effect-none : Effect words start start false false
  effect-none =
      let same : (left : ℕ) → left + (start - start) ≡ left = λ left. omega arith in
      record {
        next = λ left. rw (same left) refl;
        span = λ left w. rw (same left) (wrap-none (interval (tree_at left words start).value w));
      }

  effect-more : (core : ℕ) (lowers frees a b : Bool) → Effect words start core lowers frees → start ≤ core →
      core < length words → 1 ≤ get_or words core 0 → get_or words core 0 ≤ 3 →
      a ≡ (lowers || not (eqb (get_or words core 0) 3)) → b ≡ (frees || not (eqb (get_or words core 0) 2)) →
      Effect words start (core + 1) a b
  effect-more core lowers frees a b f o l low high p q =
      let code = get_or words core 0 in
      let more : (left : ℕ) → left + (core + 1 - start) ≡ left + 1 + (core - start) = λ left. omega arith in
      let fewer : (left : ℕ) → left + 1 - 1 ≡ left = λ left. omega arith in
      let tree : (left : ℕ) → tree_at (left + 1) words core ≡ onto (wrapped code) (tree_at left words (core + 1)) =
      λ left.
      sym (tree-by words core (left + 1) (omega arith) l (Code.single (wrapped code)) (code-single code low high))
      ∙ ap (λ (n : ℕ). onto (wrapped code) (tree_at n words (core + 1))) (fewer left) in
      record {
        next = λ left.
            ap (λ (n : ℕ). (tree_at n words start).next) (more left) ∙ f.next (left + 1)
            ∙ ap (λ (t : Placed Part). t.next) (tree left);
        span = λ left w.
            ap (λ (n : ℕ). interval (tree_at n words start).value w) (more left) ∙ f.span (left + 1) w
            ∙ ap (λ (t : Placed Part). wrap_interval lowers frees (interval t.value w)) (tree left)
            ∙ ap (wrap_interval lowers frees) (single-wrapped code low high (tree_at left words (core + 1)).value w)
            ∙ wrap-twice lowers frees (not (eqb code 3)) (not (eqb code 2))
            (interval (tree_at left words (core + 1)).value w)
            ∙ ap₂ (λ (x y : Bool). wrap_interval x y (interval (tree_at left words (core + 1)).value w)) (sym p)
            (sym q);
      }

  -- ---- the wrappers from a place on
  -- What holds before a place, which is at most the end.
  pub record FrontTo (end core : ℕ) (lowers frees : Bool) : Type 0 where
    pub order : start ≤ core
    pub within : core ≤ end
    pub codes : (k : ℕ) → start ≤ k → k < core → (k < length words) × (1 ≤ get_or words k 0) × (get_or words k 0 ≤ 3)
    pub effect : Effect words start core lowers frees

  pub front-start : (end : ℕ) → start ≤ end → FrontTo end start false false
  front-start end h =
      record { order = omega arith; within = h; codes = λ k l b. absurd (omega arith); effect = effect-none }

  module _ (end core : ℕ) (lowers frees : Bool) (f : FrontTo end core lowers frees) where
    pub front-more : (a b : Bool) → core < end → core < length words → 1 ≤ get_or words core 0 → get_or words core
        0 ≤ 3 →
        a ≡ (lowers || not (eqb (get_or words core 0) 3)) → b ≡ (frees || not (eqb (get_or words core 0) 2)) →
        FrontTo end (core + 1) a b
    front-more a b h l low high p q = record {
      order = omega (arith, f.order);
      within = omega arith;
      codes = λ k g i. ⊎_elim
          (λ (e : k ≡ core). subst (λ (n : ℕ). (n < length words) × (1 ≤ get_or words n 0) × (get_or words n 0 ≤
          3)) (sym e)
          (l, low, high))
          (λ below. f.codes k g below)
          (last-or-below (rw (add-one core) at i));
      effect = effect-more core lowers frees a b f.effect f.order l low high p q;
    }

    -- no wrapper stands at the place, or the end is reached
    pub front-stops : (most : ℕ) → end ≤ start + most →
        (core < start + most → core < length words → 1 ≤ get_or words core 0 → 4 ≤ get_or words core 0) →
        FrontOf words start most (record { core = core; lowers = lowers; frees = frees })
    front-stops most h stop = record {
      order = f.order;
      few = omega (arith, f.within);
      codes = f.codes;
      ends = stop;
      effect = f.effect;
    }

-- ---- cores
module _ (words : List ℕ) (start : ℕ) (front : Front) where
  pub core_at : (end : ℕ) → start ≤ end → end ≤ length words → FrontOf words start (end - start) front →
      CoreAt words start end front.core
  core_at end a b f = record {
    wrap = record {
      order = f.order;
      inside = omega (arith, f.few);
      codes = λ k l h. ((f.codes k l h).1, (f.codes k l h).2);
    };
    within = omega (arith, f.few);
  }

  core-same : (core : ℕ) → WrapAsked words start core → FrontOf words start (core - start) front →
      front.core ≡ core
  core-same core wrap f = ⊎_elim
      (λ (h : front.core + 1 ≤ core).
      let (low, high) = wrap.codes front.core f.order (omega arith) in
      let over = f.ends (omega (arith, wrap.order)) (omega (arith, wrap.inside)) low in
      absurd (omega arith))
      (λ h. omega (arith, f.few, wrap.order))
      (le-or-lt (front.core + 1) core)

  -- Whether 1 is in the interval of a part, from the interval of its core.
  pub core-fitted : (core : ℕ) → WrapAsked words start core → FrontOf words start (core - start) front →
      (x around : Span) → view around ≡ wrap_interval front.lowers front.frees (view x) → (one : Bool) →
      one ≡ inside 1 (view around) → (w : ℕ → ℕ) (left : ℕ) → view x ≡ interval (tree_at left words core).value w →
      one ≡ inside 1 (interval (tree_at (left + (core - start)) words start).value w)
  core-fitted core wrap f x around v one h w left e =
      let effect = subst (λ (n : ℕ). Effect words start n front.lowers front.frees) (core-same core wrap f)
      f.effect in
      h ∙ ap (inside 1) (v ∙ ap (wrap_interval front.lowers front.frees) e ∙ sym (effect.span left w))

-- A wrapper names what the part in it names.
wrapped-names : (code : ℕ) (p : Part) (k : ℕ) → names (wrapped code p) k ≡ names p k
wrapped-names code p k =
    cond-case (λ q. names q k ≡ names p k) (eqb code 1) _ _ (λ e. refl)
    (λ e. cond-case (λ q. names q k ≡ names p k) (eqb code 2) _ _ (λ f. refl) (λ f. refl))

module _ (words : List ℕ) (core left k : ℕ) where
  -- as many wrappers before the core as d
  names-by : (d at : ℕ) → at + d ≡ core → core ≤ length words →
      ((i : ℕ) → at ≤ i → i < core → (1 ≤ get_or words i 0) × (get_or words i 0 ≤ 3)) →
      names (tree_at (left + d) words at).value k ≡ names (tree_at left words core).value k
  names-by zero at e b codes =
      let here : at ≡ core = omega arith in
      let same : left + 0 ≡ left = omega arith in
      rw (here, same) refl
  names-by (suc d) at e b codes =
      let (low, high) = codes at (omega arith) (omega arith) in
      let fewer : left + suc d - 1 ≡ left + d = omega arith in
      ap (λ (t : Placed Part). names t.value k)
      (sym (tree-by words at (left + suc d) (omega arith) (omega arith) (Code.single (wrapped (get_or words at 0)))
      (code-single (get_or words at 0) low high)))
      ∙ wrapped-names (get_or words at 0) (tree_at (left + suc d - 1) words (at + 1)).value k
      ∙ ap (λ (n : ℕ). names (tree_at n words (at + 1)).value k) fewer
      ∙ names-by d (at + 1) (omega arith) b (λ i a l. codes i (omega arith) l)

  pub core-names : (start : ℕ) → WrapAsked words start core →
      names (tree_at (left + (core - start)) words start).value k ≡ names (tree_at left words core).value k
  core-names start wrap =
      names-by (core - start) start (omega (arith, wrap.order)) wrap.inside wrap.codes

-- The ways of a part: what each answers is the answer for the tree at its place.
-- part-deep, part-past      where no level is left, and past the words' end
-- part-other                where a code stands that is no part's, or nothing's
-- part-group, part-link     for a choice or an all, and for a link
-- wrapped-part              for a part with wrappers, from the answer for its core
-- Assumes nothing.
use mathlib.Core.Path.{◌≡◌, sym, ap, ◌∙◌}
use mathlib.Core.List.{List}
use mathlib.Core.Logic.{⊎_elim}
use Prim.Native.Nat.{ℕ, ◌+◌, ◌-◌, ◌*◌, ◌≤◌, ◌<◌}
use native.Mathlib.Omega.{arith}
use lib.ListN.{length, get_or}
use Rattle.words.proofs.Bools.{eq-or-ne, le-or-lt}
use Rattle.bags.specs.Part.{Part, Parts}
use Rattle.bags.specs.Interval.{interval, wrap_interval}
use Rattle.bags.proofs.Spans.{small-more}
use Rattle.parts.specs.Reading.{Code, code_of, gathered}
use Rattle.parts.specs.Placed.{placed, onto}
use Rattle.parts.proofs.Codes.{code-nothing, code-low, code-group, code-open, code-middle, code-high}
use Rattle.trees.specs.declared.Front.{Front}
use Rattle.trees.specs.Trees.{link_at, trees_at, tree_by, tree_at}
use Rattle.trees.specs.Wrappers.{FrontOf}
use Rattle.trees.proofs.Places.{tree-deep, tree-past, tree-by, link-tree}
use Rattle.trees.proofs.Sizes.{next-bound}
use Rattle.joins.specs.declared.Eval.{Eval}
use Rattle.joins.specs.Evaluation.{Evaluates}
use Rattle.evaluator.specs.Machine.{Wrapped}
use Rattle.evaluator.proofs.Evaluations.{evaluates-as, evaluates-from}

module _ (w : ℕ → ℕ) (words : List ℕ) (left at : ℕ) (e : Eval) where
  pub part-deep : left ≡ 0 → Evaluates w at (placed Part.nothing at) e → Evaluates w at (tree_at left words at) e
  part-deep h v = evaluates-as w at _ _ e (tree-deep words at left h) v

  pub part-past :
      0 < left → length words ≤ at → Evaluates w at (placed Part.nothing at) e → Evaluates w at (tree_at left words
      at) e
  part-past p h v = evaluates-as w at _ _ e (tree-past words at left p h) v

  module _ (p : 0 < left) (h : at < length words) where
    by_code :
        (k : Code) → code_of (get_or words at 0) ≡ k → Evaluates w at (tree_by k (tree_at (left - 1) words) words
        at) e →
        Evaluates w at (tree_at left words at) e
    by_code k c v = evaluates-as w at _ _ e (tree-by words at left p h k c) v

    -- nothing stands there, or no part
    pub part-other :
        (1 ≤ get_or words at 0 → 4 ≤ get_or words at 0) → (16 ≤ get_or words at 0 → 18 ≤ get_or words at 0) →
        (256 ≤ get_or words at 0 → 384 ≤ get_or words at 0) →
        Evaluates w at (placed Part.nothing (at + 1)) e → Evaluates w at (tree_at left words at) e
    part-other no-wrapper no-group no-link v =
        let code = get_or words at 0 in
        ⊎_elim
        (λ (low : code ≤ 15). ⊎_elim
        (λ zero. by_code Code.nothing (code-nothing code zero) v)
        (λ some. by_code Code.unknown (code-low code (no-wrapper (omega (arith, some))) low) v)
        (eq-or-ne code 0))
        (λ (h : 15 < code). ⊎_elim
        (λ (low : code ≤ 255). ⊎_elim
        (λ opening. by_code Code.opening (code-open code opening) v)
        (λ other. by_code Code.unknown (code-middle code (omega (arith, other, no-group (omega arith))) low) v)
        (eq-or-ne code 18))
        (λ (g : 255 < code). by_code Code.unknown (code-high code (no-link (omega arith))) v)
        (le-or-lt code 255))
        (le-or-lt code 15)

    pub part-group :
        (parts code : ℕ) → parts ≡ get_or words (at + 1) 0 → 16 ≤ get_or words at 0 → get_or words at 0 ≤ 17 →
        ((ps : Parts) → gathered code ps ≡ gathered (get_or words at 0) ps) →
        Evaluates w (at + 2) (onto (gathered code) (trees_at (tree_at (left - 1) words) parts (at + 2))) e →
        Evaluates w at (tree_at left words at) e
    part-group parts code q a b same v =
        let run = trees_at (tree_at (left - 1) words) parts (at + 2) in
        let here = evaluates-as w (at + 2) _ _ e (ap (λ (p : Part). placed p run.next) (same run.value)) v in
        by_code (Code.group (gathered (get_or words at 0))) (code-group _ a b)
        (evaluates-from w at (at + 2) _ e (omega arith) (rw q at here))

    pub part-link :
        (label : ℕ) → label ≡ get_or words at 0 - 256 → 256 ≤ get_or words at 0 → get_or words at 0 ≤ 383 →
        Evaluates w at (link_at words at label) e → Evaluates w at (tree_at left words at) e
    part-link label q a b v = evaluates-as w at _ _ e (link-tree words at left p h label q a b) v

-- The answer for a part, from that for its core.
pub wrapped-part : (w : ℕ → ℕ) (words : List ℕ) (start left levels : ℕ) (front : Front) (core r : Eval) →
    FrontOf words start left front → levels ≡ left - (front.core - start) →
    Evaluates w front.core (tree_at levels words front.core) core → Wrapped front core r →
    Evaluates w start (tree_at left words start) r
wrapped-part w words start left levels front core r f q v wrap =
    let all : levels + (front.core - start) ≡ left = omega (arith, f.few, f.order) in
    let inner = tree_at levels words front.core in
    let (low, high) = next-bound words levels front.core in
    let next : (tree_at left words start).next ≡ inner.next =
    ap (λ (m : ℕ). (tree_at m words start).next) (sym all) ∙ f.effect.next levels in
    record {
      next = wrap.next ∙ v.next ∙ sym next;
      span = wrap.span ∙ ap (wrap_interval front.lowers front.frees) v.span
          ∙ sym (f.effect.span levels w) ∙ ap (λ (m : ℕ). interval (tree_at m words start).value w) all;
      small = wrap.small _
          (small-more (65535 * (inner.next - front.core)) (65535 * ((tree_at left words start).next - start))
          core.span (omega (arith, next, f.order, low)) v.small);
    }

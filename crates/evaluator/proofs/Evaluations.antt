-- What the evaluator's steps answer for the tree at a place.
-- evaluates-as, evaluates-from   the same answer for an equal tree, and from a place before
-- part_small                     a span is small enough to be added
-- nothing-.., link-.., none-..   the answer of each leaf, from what its span stands for
-- Assumes nothing.
use mathlib.Core.Path.{◌≡◌, refl, ap, ◌∙◌, subst}
use mathlib.Core.List.{List}
use Prim.Native.Nat.{ℕ, ◌+◌, ◌-◌, ◌*◌, ◌≤◌, ◌<◌}
use native.Mathlib.Omega.{arith}
use borrow.Author.Tests.{eq-eqb, ne_eqb}
use lib.ListN.{length}
use Rattle.words.specs.Limits.{max_template}
use Rattle.bags.specs.Part.{Part, Parts, Limit}
use Rattle.bags.specs.Interval.{link_interval}
use Rattle.bags.specs.Span.{view, Small}
use Rattle.bags.specs.declared.Span.{Span}
use Rattle.bags.proofs.Spans.{span, small-more, small-up}
use Rattle.parts.specs.Reading.{gathered}
use Rattle.parts.specs.Placed.{Placed, placed, onto}
use Rattle.trees.specs.Trees.{tree_at}
use Rattle.trees.proofs.Sizes.{next-bound}
use Rattle.joins.specs.declared.Eval.{Eval}
use Rattle.joins.specs.Evaluation.{Evaluates}
use Rattle.joins.proofs.Beginnings.{eval}

module _ (w : ℕ → ℕ) (at : ℕ) where
  -- An equal tree has the same answer.
  pub evaluates-as : (s t : Placed Part) (e : Eval) → s ≡ t → Evaluates w at s e → Evaluates w at t e
  evaluates-as s t e h v = subst (λ (u : Placed Part). Evaluates w at u e) h v

  -- What is small for few words is so for more.
  pub evaluates-from :
      (after : ℕ) (t : Placed Part) (e : Eval) → at ≤ after → Evaluates w after t e → Evaluates w at t e
  evaluates-from after t e h v =
      record {
        next = v.next;
        span = v.span;
        small = small-more (65535 * (t.next - after)) (65535 * (t.next - at)) e.span (omega arith) v.small;
      }

  module _ (words : List ℕ) (bound : length words ≤ max_template) (left : ℕ) (e : Eval) where
    pub part_small : Evaluates w at (tree_at left words at) e → Small 1000000000 e.span
    part_small v =
        let b = next-bound words left at in
        small-more (65535 * ((tree_at left words at).next - at)) 1000000000 e.span (omega arith) v.small

  -- Nothing has 0 up.
  pub nothing-evaluates : (next : ℕ) → Evaluates w at (placed Part.nothing next) (eval next (span 0 4294967295))
  unfolding view
  nothing-evaluates next = record { next = refl; span = refl; small = small-up _ 0 (omega arith) }

  -- A link has the interval of its label's count.
  pub link-evaluates :
      (label shape low : ℕ) (high : Limit) (c : ℕ) (x : Span) → c ≡ w label → c < 65536 →
      view x ≡ link_interval c low high → Small c x →
      Evaluates w at (placed (Part.link label shape low high) (at + 4)) (eval (at + 4) x)
  link-evaluates label shape low high c x e b v s = record {
    next = refl;
    span = v ∙ ap (λ (n : ℕ). link_interval n low high) e;
    small = small-more c (65535 * (at + 4 - at)) x (omega arith) s;
  }

  -- No parts of a choice, and of all.
  module _ (code next : ℕ) where
    pub none-choice :
        code ≡ 16 → Evaluates w at (onto (gathered code) (placed Parts.none next)) (eval next (span 0 0))
    unfolding view Small
    none-choice h =
        rw (eq-eqb code 16 h) (record { next = refl; span = refl; small = (omega arith, λ d. omega arith) })

    pub none-all :
        (e : Eval) → (code ≡ 16 → ⊥) → Evaluates w at (placed Part.nothing next) e →
        Evaluates w at (onto (gathered code) (placed Parts.none next)) e
    none-all e d v = rw (ne_eqb code 16 d) (record { next = v.next; span = v.span; small = v.small })

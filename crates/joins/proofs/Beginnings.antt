-- The first parts of a run, from none to all of them: how the answer for them grows.
-- eval          an answer, by its next place and its span
-- begins-none   no part is taken yet
-- begins-more   one part more; begins-link: one link more
-- begins-all    the first parts, as a run of their own; begins-small: their span is small enough to be added
-- Grows         so many parts more; grows-link: one link more
-- Assumes nothing.
use Prim.Native.Nat.{ℕ, ◌+◌, ◌-◌, ◌*◌, ◌≤◌, ◌<◌}
use mathlib.Core.Path.{◌≡◌, refl, sym, ap, subst, ◌∙◌}
use mathlib.Core.List.{List}
use native.Mathlib.Omega.{arith}
use lib.ListN.{length, get_or}
use Rattle.words.specs.Limits.{max_template}
use Rattle.bags.specs.Part.{Part, Parts}
use Rattle.bags.specs.Interval.{Interval, interval}
use Rattle.bags.specs.Span.{view, Small}
use Rattle.bags.specs.declared.Span.{Span}
use Rattle.bags.proofs.Intervals.{Proper}
use Rattle.bags.proofs.Exact.{part-proper}
use Rattle.bags.proofs.Flatness.{view-proper}
use Rattle.bags.proofs.Spans.{small-more}
use Rattle.parts.specs.Reading.{gathered}
use Rattle.parts.specs.Placed.{Placed, placed, onto}
use Rattle.trees.specs.Trees.{link_at, trees_at, tree_at}
use Rattle.trees.proofs.Places.{link-tree, trees-none, trees-more}
use Rattle.trees.proofs.Sizes.{next-bound, nexts-bound}
use Rattle.joins.specs.declared.Eval.{Eval}
use Rattle.joins.specs.Evaluation.{Evaluates, joined, link_interval_at, JoinedWith, JoinedPart, Begins, LinkHere}
use Rattle.joins.proofs.Joined.{joined-assoc, joined-none, none-joined, joined-more}

-- An answer.
abbrev pub eval : ℕ → Span → Eval
eval next x = record { next = next; span = x }

-- ---- the first parts of a run
module _ (w : ℕ → ℕ) (words : List ℕ) (left at code : ℕ) where
  -- so many parts from a place on, and their interval
  abbrev run : ℕ → ℕ → Placed Parts
  run n start = trees_at (tree_at left words) n start

  abbrev runs : ℕ → ℕ → Interval
  runs n start = interval (gathered code (run n start).value) w

  runs-proper : (n start : ℕ) → Proper (runs n start)
  runs-proper n start = part-proper w (gathered code (run n start).value)

  pub begins-none : (e : Eval) → Evaluates w at (onto (gathered code) (placed Parts.none at)) e →
      Begins w words left at code 0 e
  begins-none e v =
      let here : e.next ≡ at = v.next in
      let none : (more : ℕ) → 0 + more ≡ more = λ more. omega arith in
      record {
        order = omega (arith, here);
        next = λ more. rw (none more, here) refl;
        span = λ more.
            rw (none more, here, v.span) (sym (none-joined w code (runs more at) (runs-proper more at)));
        small = subst (λ (n : ℕ). Small (65535 * (n - at)) e.span) (sym here) v.small;
      }

  -- a run of one part more, by its first part
  run-next : (more start : ℕ) → (run (1 + more) start).next ≡ (run more (tree_at left words start).next).next
  run-next more start =
      let fewer : 1 + more - 1 ≡ more = omega arith in
      ap (λ (t : Placed Parts). t.next) (sym (trees-more (tree_at left words) start (1 + more) (omega arith)))
      ∙ ap (λ (n : ℕ). (run n (tree_at left words start).next).next) fewer

  run-span : (more start : ℕ) →
      runs (1 + more) start
      ≡ joined code (interval (tree_at left words start).value w) (runs more (tree_at left words start).next)
  run-span more start =
      let fewer : 1 + more - 1 ≡ more = omega arith in
      ap (λ (t : Placed Parts). interval (gathered code t.value) w)
      (sym (trees-more (tree_at left words) start (1 + more) (omega arith)))
      ∙ joined-more w code (tree_at left words start).value (run (1 + more - 1) (tree_at left words start).next).value
      ∙ ap (λ (n : ℕ). joined code (interval (tree_at left words start).value w)
      (runs n (tree_at left words start).next)) fewer

  module _ (done : ℕ) (e : Eval) (b : Begins w words left at code done e) where
    -- one part more, by its interval
    begins-part : (r : Eval) → r.next ≡ (tree_at left words e.next).next →
        view r.span ≡ joined code (view e.span) (interval (tree_at left words e.next).value w) →
        Small (65535 * (r.next - at)) r.span → Begins w words left at code (done + 1) r
    begins-part r q i s =
        let t = tree_at left words e.next in
        let (start, end) = next-bound words left e.next in
        let step : (more : ℕ) → done + 1 + more ≡ done + (1 + more) = λ more. omega arith in
        record {
          order = omega (arith, b.order, start);
          next = λ more.
              ap (λ (n : ℕ). (run n at).next) (step more) ∙ b.next (1 + more) ∙ run-next more e.next
              ∙ ap (λ (n : ℕ). (run more n).next) (sym q);
          span = λ more.
              ap (λ (n : ℕ). runs n at) (step more) ∙ b.span (1 + more)
              ∙ ap (joined code (view e.span)) (run-span more e.next)
              ∙ sym (joined-assoc code (view e.span) (interval t.value w) (runs more t.next)
              (view-proper e.span) (part-proper w t.value) (runs-proper more t.next))
              ∙ ap (λ (I : Interval). joined code I (runs more t.next)) (sym i)
              ∙ ap (λ (n : ℕ). joined code (view r.span) (runs more n)) (sym q);
          small = s;
        }

    pub begins-more : (first r : Eval) → Evaluates w e.next (tree_at left words e.next) first →
        JoinedPart code e first r → Begins w words left at code (done + 1) r
    begins-more first r v j =
        let t = tree_at left words e.next in
        let (start, end) = next-bound words left e.next in
        let there : r.next ≡ t.next = j.next ∙ v.next in
        let both = j.with (65535 * (t.next - e.next)) v.small in
        begins-part r there (both.span ∙ ap (joined code (view e.span)) v.span)
        (small-more (65535 * (e.next - at) + 65535 * (t.next - e.next)) (65535 * (r.next - at)) r.span
        (omega (arith, b.order, start, there)) (both.small (65535 * (e.next - at)) b.small))

    -- one link more, whose label counts so many
    begins-link : (count label : ℕ) (x : Span) → 0 < left → LinkHere words e.next →
        label ≡ get_or words e.next 0 - 256 → count ≡ w label → count < 65536 →
        JoinedWith code e.span (link_interval_at words e.next count) count x →
        Begins w words left at code (done + 1) (eval (e.next + 4) x)
    begins-link count label x level here l q c j =
        let tree : link_at words e.next label ≡ tree_at left words e.next =
        link-tree words e.next left level (omega (arith, here.inside)) label l here.low here.high in
        begins-part (eval (e.next + 4) x) (ap (λ (t : Placed Part). t.next) tree)
        (j.span ∙ ap (λ (n : ℕ). joined code (view e.span) (link_interval_at words e.next n)) q
        ∙ ap (λ (t : Placed Part). joined code (view e.span) (interval t.value w)) tree)
        (small-more (65535 * (e.next - at) + count) (65535 * (e.next + 4 - at)) x (omega (arith, b.order))
        (j.small (65535 * (e.next - at)) b.small))

    -- all parts of a run, none is left
    pub begins-all : Evaluates w at (onto (gathered code) (run done at)) e
    begins-all =
        let all : done + 0 ≡ done = omega arith in
        let none : placed Parts.none e.next ≡ run 0 e.next = trees-none (tree_at left words) e.next 0 refl in
        let next : (run done at).next ≡ e.next =
        ap (λ (n : ℕ). (run n at).next) (sym all) ∙ b.next 0 ∙ sym (ap (λ (t : Placed Parts). t.next) none) in
        record {
          next = sym next;
          span = sym (ap (λ (n : ℕ). runs n at) (sym all) ∙ b.span 0
              ∙ ap (λ (t : Placed Parts). joined code (view e.span) (interval (gathered code t.value) w))
              (sym none)
              ∙ joined-none w code (view e.span) (view-proper e.span));
          small = subst (λ (n : ℕ). Small (65535 * (n - at)) e.span) (sym next) b.small;
        }

    pub begins-small : length words ≤ max_template → Small 1000000000 e.span
    begins-small short =
        let all = begins-all in
        let (start, end) = nexts-bound words left done at in
        small-more (65535 * ((run done at).next - at)) 1000000000 e.span (omega arith) all.small

-- ---- links that come next
-- With so many parts more the answer for the parts before is another's.
abbrev pub Grows : (ℕ → ℕ) → List ℕ → ℕ → ℕ → Eval → ℕ → Eval → Type 0
Grows w words left code before count e =
    (at done : ℕ) → Begins w words left at code done before → Begins w words left at code (done + count) e

module _ (w : ℕ → ℕ) (words : List ℕ) (left code : ℕ) (before : Eval) where
  pub grows-link : (count : ℕ) (e : Eval) → Grows w words left code before count e → (amount label : ℕ) (x : Span) →
      0 < left → LinkHere words e.next → label ≡ get_or words e.next 0 - 256 → amount ≡ w label → amount < 65536 →
      JoinedWith code e.span (link_interval_at words e.next amount) amount x →
      Grows w words left code before (count + 1) (eval (e.next + 4) x)
  grows-link count e g amount label x level here l q c j at done b =
      let same : done + count + 1 ≡ done + (count + 1) = omega arith in
      subst (λ (n : ℕ). Begins w words left at code n (eval (e.next + 4) x)) same
      (begins-link w words left at code (done + count) e (g at done b) amount label x level here l q c j)

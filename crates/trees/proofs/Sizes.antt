-- Where the words of a tree end: not before its place, and at most three words past the end of all.
-- next-bound     of the tree at a place
-- nexts-bound    of a run of trees
-- Assumes nothing.
use mathlib.Core.List.{List}
use Prim.Native.Nat.{ℕ, zero, suc, ◌+◌, ◌≤◌, ◌<◌, max}
use native.Mathlib.Omega.{arith}
use borrow.Author.Tests.{ltb-true}
use lib.ListN.{length, get_or}
use lib.Dec.{ltb}
use Rattle.bags.specs.Part.{Part}
use Rattle.parts.specs.Reading.{Code, code_of}
use Rattle.parts.specs.Placed.{Placed}
use Rattle.trees.specs.Trees.{trees_at, tree_by, tree_at}
use Rattle.words.proofs.Bools.{cond-case}

abbrev Ends : {A : Type 0} → List ℕ → ℕ → Placed A → Type 0
Ends words at t = (at ≤ t.next) × (t.next ≤ max at (length words + 3))

module _ (words : List ℕ) where
  run_ends :
      (inner : ℕ → Placed Part) → ((at : ℕ) → Ends words at (inner at)) →
      (n at : ℕ) → Ends words at (trees_at inner n at)
  unfolding trees_at
  run_ends inner h zero at = omega arith
  run_ends inner h (suc n) at =
      let first = h at in
      let rest = run_ends inner h n (inner at).next in
      omega arith

  code-ends :
      (inner : ℕ → Placed Part) → ((at : ℕ) → Ends words at (inner at)) → (at : ℕ) → at < length words → (k : Code) →
      Ends words at (tree_by k inner words at)
  code-ends inner h at l Code.nothing = omega arith
  code-ends inner h at l Code.opening = omega arith
  code-ends inner h at l Code.unknown = omega arith
  code-ends inner h at l (Code.single f) = let a = h (at + 1) in omega arith
  code-ends inner h at l (Code.group f) =
      let a = run_ends inner h (get_or words (at + 1) 0) (at + 2) in
      omega arith
  code-ends inner h at l (Code.link first kind) = omega arith

  -- Where the tree at a place ends.
  pub next-bound : (left at : ℕ) → Ends words at (tree_at left words at)
  unfolding tree_at
  next-bound zero at = omega arith
  next-bound (suc left) at =
      cond-case (Ends words at) (ltb at (length words)) _ _
      (λ e. code-ends (tree_at left words) (λ next. next-bound left next) at (ltb-true _ _ e) (code_of (get_or
      words at 0)))
      (λ e. omega arith)

  -- Where a run of trees ends.
  pub nexts-bound : (left n at : ℕ) → Ends words at (trees_at (tree_at left words) n at)
  nexts-bound left n at = run_ends (tree_at left words) (λ next. next-bound left next) n at

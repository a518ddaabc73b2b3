-- The tree at a place, by what stands there.
-- tree-deep, tree-past, tree-by   where no level is left, past the words' end, and by the code
-- link-tree                       where a link stands
-- trees-none, trees-more          a run of none, and of a first and the rest
-- Assumes nothing.
use mathlib.Core.Path.{◌≡◌, ap, ◌∙◌}
use mathlib.Core.List.{List}
use Prim.Native.Nat.{ℕ, zero, suc, ◌-◌, ◌≤◌, ◌<◌}
use native.Mathlib.Omega.{arith}
use native.Mathlib.Numerals.{sub-one}
use borrow.Author.Tests.{lt-ltb, le-ltb}
use lib.ListN.{length, get_or}
use Rattle.bags.specs.Label.{first_label}
use Rattle.bags.specs.Part.{Part, Parts}
use Rattle.parts.specs.Reading.{Code, code_of}
use Rattle.parts.specs.Placed.{Placed, placed, onto}
use Rattle.parts.proofs.Codes.{code-link, label-kind}
use Rattle.trees.specs.Trees.{link_at, trees_at, tree_by, tree_at}

module _ (words : List ℕ) (at : ℕ) where
  pub tree-deep : (left : ℕ) → left ≡ 0 → placed Part.nothing at ≡ tree_at left words at
  unfolding tree_at
  tree-deep left e = rw e

  pub tree-past : (left : ℕ) → 0 < left → length words ≤ at → placed Part.nothing at ≡ tree_at left words at
  unfolding tree_at
  tree-past zero p h = absurd (omega arith)
  tree-past (suc left) p h = simp (le-ltb at (length words) h)

  pub tree-by :
      (left : ℕ) → 0 < left → at < length words → (k : Code) → code_of (get_or words at 0) ≡ k →
      tree_by k (tree_at (left - 1) words) words at ≡ tree_at left words at
  unfolding tree_at
  tree-by zero p h k e = absurd (omega arith)
  tree-by (suc left) p h k e = rw (sub-one, ← e) (simp (lt-ltb at (length words) h))

  pub link-tree :
      (left : ℕ) → 0 < left → at < length words → (label : ℕ) → label ≡ get_or words at 0 - 256 →
      256 ≤ get_or words at 0 → get_or words at 0 ≤ 383 → link_at words at label ≡ tree_at left words at
  link-tree left p h label q a b =
      let (way, kind, l, same) = label-kind label (omega arith) in
      ap (link_at words at) same
      ∙ tree-by left p h (Code.link (first_label way) kind) (code-link way kind (get_or words at 0) l (omega arith))

module _ (inner : ℕ → Placed Part) (at : ℕ) where
  pub trees-none : (n : ℕ) → n ≡ 0 → placed Parts.none at ≡ trees_at inner n at
  unfolding trees_at
  trees-none n e = rw e

  pub trees-more :
      (n : ℕ) → 0 < n →
      onto (Parts.more (inner at).value) (trees_at inner (n - 1) (inner at).next) ≡ trees_at inner n at
  unfolding trees_at
  trees-more zero h = absurd (omega arith)
  trees-more (suc n) h = rw sub-one

-- Open and closed shapes (docs/FORMAT.md, "Templates"): the word after a shape's count, and where its part starts.
-- open-word, word-open, word-closed   a shape is open exactly if that word is 18
-- part-open, part-closed, part-near   the part stands after that word, or after the count
-- Assumes nothing.
use Prim.Native.Nat.{ℕ, ◌+◌, ◌≤◌}
use mathlib.Core.Path.{◌≡◌, ap}
use mathlib.Core.Bool.{Bool, true, false, cond}
use mathlib.Core.List.{List}
use native.Mathlib.Omega.{arith}
use borrow.Author.Tests.{eqb-true, eq-eqb, ne_eqb}
use lib.ListN.{get_or}
use Rattle.words.proofs.Bools.{bool_case}
use Rattle.template.specs.Template.{open_at, part_at}

module _ (words : List ℕ) (at : ℕ) where
  pub open-word : open_at words at ≡ true → get_or words (at + 1) 0 ≡ 18
  unfolding open_at
  open-word e = eqb-true (get_or words (at + 1) 0) 18 e

  pub word-open : get_or words (at + 1) 0 ≡ 18 → open_at words at ≡ true
  unfolding open_at
  word-open e = eq-eqb (get_or words (at + 1) 0) 18 e

  pub word-closed : (get_or words (at + 1) 0 ≡ 18 → ⊥) → open_at words at ≡ false
  unfolding open_at
  word-closed ne = ne_eqb (get_or words (at + 1) 0) 18 ne

  pub part-open : open_at words at ≡ true → part_at words at ≡ at + 2
  unfolding part_at
  part-open e = ap (λ (b : Bool). cond b (at + 2) (at + 1)) e

  pub part-closed : open_at words at ≡ false → part_at words at ≡ at + 1
  unfolding part_at
  part-closed e = ap (λ (b : Bool). cond b (at + 2) (at + 1)) e

  pub part-near : (at + 1 ≤ part_at words at) × (part_at words at ≤ at + 2)
  part-near = bool_case (open_at words at)
      (λ e. omega (arith, part-open e))
      (λ e. omega (arith, part-closed e))

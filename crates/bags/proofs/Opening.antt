-- Open and closed shapes (docs/FORMAT.md, "Bags and counts").
--   FitsNamed      some bag of a part has the counts of the labels that the part names
--   open-exact     counts fit an open shape exactly if those of its named labels do
--   closed-counts  counts fit a closed shape only if each outgoing label that it does not name counts 0
-- Assumes nothing.
use Prim.Native.Nat.{ℕ, ◌<◌}
use mathlib.Core.Path.{◌≡◌, refl, sym, ◌∙◌}
use mathlib.Core.Logic.{◌↔◌}
use mathlib.Core.Bool.{true, false}
use Rattle.words.specs.Limits.{max_kinds}
use Rattle.words.proofs.Bools.{bool_case, never_both}
use Rattle.bags.specs.Part.{Part, Names}
use Rattle.bags.specs.Bag.{Bag, Bags, total, Fits}
use Rattle.bags.specs.Look.{looks_at, seen}
use Rattle.bags.proofs.Totals.{part-supported}
use Rattle.bags.proofs.Looking.{looks-open, looks-outgoing, looks-named, seen_at, seen-not}

-- Some bag of the part has the counts of the labels that the part names.
abbrev pub FitsNamed : ℕ → Part → (ℕ → ℕ) → Type 0
FitsNamed S p w = (b : Bag) × Bags p b × ((k : ℕ) → Names p k → total S b k ≡ w k)

module _ (S : ℕ) (p : Part) (w : ℕ → ℕ) where
  pub open-exact : Fits S p (seen true p w) ↔ FitsNamed S p w
  open-exact = (
    λ f.
        let (b, h, same) = f in
        (b, h, λ k n. same k ∙ seen_at true p w k (looks-named true p k n)),
    λ f.
        let (b, h, same) = f in (
          b,
          h,
          λ k. bool_case (looks_at true p k)
              (λ e. same k ((looks-open p k).0 e) ∙ sym (seen_at true p w k e))
              (λ e. part-supported S p b h k (λ n. never_both ((looks-open p k).1 n) e) ∙ sym (seen-not true p w k e)),
        ),
  )

  pub closed-counts : Fits S p (seen false p w) → (k : ℕ) → k < max_kinds → (Names p k → ⊥) → w k ≡ 0
  closed-counts f k l n =
      let (b, h, same) = f in
      sym (seen_at false p w k (looks-outgoing false p k refl l)) ∙ sym (same k) ∙ part-supported S p b h k n

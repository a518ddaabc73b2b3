-- The row that reading a part leaves: its links' entries, one by one.
--   row_after, run_row_after    the row after a part, and after a run
--   row_kept                 a label that the part does not name keeps its entry
-- Assumes nothing.
use Prim.Native.Nat.{ℕ, ◌+◌}
use mathlib.Core.Path.{◌≡◌, refl, ◌∙◌}
use mathlib.Core.Logic.{inl, inr}
use mathlib.Core.List.{List}
use lib.ListN.{get_or, set}
use lib.Seq.{get_or-set_other}
use Rattle.bags.specs.Part.{Part, Parts, Names, RunNames}

abbrev mutual
  pub row_after : Part → List ℕ → List ℕ
  row_after Part.nothing row = row
  row_after (Part.star p) row = row_after p row
  row_after (Part.plus p) row = row_after p row
  row_after (Part.optional p) row = row_after p row
  row_after (Part.choice ps) row = run_row_after ps row
  row_after (Part.all ps) row = run_row_after ps row
  row_after (Part.link label shape low high) row = set row label (shape + 1)

  pub run_row_after : Parts → List ℕ → List ℕ
  run_row_after Parts.none row = row
  run_row_after (Parts.more p ps) row = run_row_after ps (row_after p row)

mutual
  pub row_kept : (p : Part) (row : List ℕ) (k : ℕ) → (Names p k → ⊥) → get_or (row_after p row) k 0 ≡ get_or row k 0
  row_kept Part.nothing row k h = refl
  row_kept (Part.star p) row k h = row_kept p row k h
  row_kept (Part.plus p) row k h = row_kept p row k h
  row_kept (Part.optional p) row k h = row_kept p row k h
  row_kept (Part.choice ps) row k h = run-row-kept ps row k h
  row_kept (Part.all ps) row k h = run-row-kept ps row k h
  row_kept (Part.link label shape low high) row k h = get_or-set_other row label k (shape + 1) 0 h

  run-row-kept : (ps : Parts) (row : List ℕ) (k : ℕ) → (RunNames ps k → ⊥)
      → get_or (run_row_after ps row) k 0 ≡ get_or row k 0
  run-row-kept Parts.none row k h = refl
  run-row-kept (Parts.more p ps) row k h =
      run-row-kept ps (row_after p row) k (λ n. h (inr n)) ∙ row_kept p row k (λ n. h (inl n))

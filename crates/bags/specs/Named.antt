-- The shape that a part names for a label, as an entry of the table of names; no part of a promise.
-- entry, first_entry   the entry of one link, and of two parts
-- named               the entry of a part
-- Assumes nothing.
use Rattle.std.specs.Prelude.{ℕ, zero, suc, Bool, true, false, eqb}
use Rattle.bags.specs.Part.{Part, nothing, star, plus, optional, choice, all, link, Parts, none, more}

-- The entry for a shape that a link names, if it does.
abbrev pub entry : Bool → ℕ → ℕ
entry true shape = suc shape
entry false shape = 0

-- The first of two entries that is one.
abbrev pub first_entry : ℕ → ℕ → ℕ
first_entry zero n = n
first_entry (suc m) n = suc m

-- The shape that a part names for the label k, plus one; 0 where it names none. In a run the first that names it wins.
abbrev mutual
  pub named : Part → ℕ → ℕ
  named nothing k = 0
  named (star p) k = named p k
  named (plus p) k = named p k
  named (optional p) k = named p k
  named (choice ps) k = run_named ps k
  named (all ps) k = run_named ps k
  named (link label shape low high) k = entry (eqb k label) shape

  pub run_named : Parts → ℕ → ℕ
  run_named none k = 0
  run_named (more p ps) k = first_entry (named p k) (run_named ps k)

-- `others_zero` meets its contract. The invariant: the kinds passed are named or count 0. Assumes nothing.
use Prim.Native.Nat.{ℕ, ◌<◌}
use Rattle.bags.specs.Part.{Part}
use Rattle.bags.specs.Bag.{count}
use Rattle.evaluator.specs.Rows.{RowOf}
use Rattle.bags.proofs.Decide.{Passes}
use Rattle.counts.proofs.others_zero.Given as goal

-- Whatever part the row is of, each kind below i is passed.
abbrev pub invariant-loop-i : goal.invariant-loop-i
invariant-loop-i l = (p : Part) → RowOf l.row l.kinds p → (k : ℕ) → k < l.i → Passes p (count l.counts) k

-- `first_over` meets its contract. The invariant: the first count over 8,192 is where it is from here on.
-- Assumes nothing.
use Prim.Native.Nat.{◌+◌}
use mathlib.Core.Path.{◌≡◌}
use lib.ListN.{drop}
use Rattle.counts.specs.Fit.{first_over}
use Rattle.counts.proofs.first_over.Given as goal

abbrev pub invariant-loop-i : goal.invariant-loop-i
invariant-loop-i l = l.i + first_over (drop l.i l.counts) ≡ first_over l.counts

-- `twins::mark_of` is below the count of marks; which mark it is does not matter. Assumes nothing.
use Prim.Native.Nat.{◌<◌}
use Rattle.twins.specs.Twins.{marks}
use Rattle.twins.proofs.mark_of.Given as goal

abbrev pub invariant-loop-next : goal.invariant-loop-next
invariant-loop-next l = l.mark < marks

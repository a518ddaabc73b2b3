-- `flat::meet::meet_leaving` goes along the links run by run; the invariant is Walked.
-- Assumes nothing.
use Prim.Native.Nat.{◌-◌}
use lib.ListN.{length}
use Rattle.flat.proofs.Along.{Walked}
use Rattle.flat.proofs.meet.meet_leaving.Given as goal

abbrev pub invariant-loop-at : goal.invariant-loop-at
invariant-loop-at l = Walked l.words l.places l.is_open l.links l.at l.span l.found

abbrev pub decreases-loop-at : goal.decreases-loop-at
decreases-loop-at l = length l.links - l.at

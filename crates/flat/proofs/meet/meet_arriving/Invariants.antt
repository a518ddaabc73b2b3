-- `flat::meet::meet_arriving` goes along the counts of the last labels; the invariant is Arrived.
-- Assumes nothing.
use Rattle.flat.proofs.Along.{Arrived}
use Rattle.flat.proofs.meet.meet_arriving.Given as goal

abbrev pub invariant-loop-k : goal.invariant-loop-k
invariant-loop-k l =
    Arrived l.words l.places l.arriving l.initial.span l.initial.found l.k l.span l.found

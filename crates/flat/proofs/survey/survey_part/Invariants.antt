-- `flat::survey_part` surveys a part. The invariant: of every part that stands there some run is left. The measure is
-- the number of words that are left. Assumes nothing.
use Prim.Native.Nat.{◌-◌, ◌<◌}
use Rattle.bags.specs.Part.{Part, Parts}
use Rattle.flat.specs.Places.{Standing}
use Rattle.flat.proofs.Pending.{Pending}
use Rattle.flat.proofs.survey.survey_part.Given as goal

abbrev pub invariant-loop-at : goal.invariant-loop-at
invariant-loop-at l =
    (0 < l.at) × ((p : Part) → Standing l.words l.core l.end p → (ps : Parts) × Pending l.words l.end p l.at
    l.places l.needed ps)

abbrev pub decreases-loop-at : goal.decreases-loop-at
decreases-loop-at l = l.end - l.at

-- `flood::follow_leaving` strikes what the links from a card lead to. The invariant: that of those below i is.
-- Assumes nothing.
use Prim.Native.Nat.{◌≤◌, ◌-◌}
use Rattle.bags.specs.Label.{outgoing}
use Rattle.board.specs.Work.{work, Swept}
use Rattle.walks.specs.Walks.{Leaving}
use Rattle.walks.specs.Entries.{LedGood}
use Rattle.flood.proofs.follow_leaving.Given as goal

abbrev pub invariant-loop-i : goal.invariant-loop-i
invariant-loop-i l =
    (l.lo ≤ l.i) × (l.i ≤ l.hi)
    × Swept (Leaving (LedGood outgoing l.walk.script.now l.row l.walk.shapes) l.lo l.i)
    (work l.initial.grid l.initial.queue) (work l.grid l.queue)

abbrev pub decreases-loop-i : goal.decreases-loop-i
decreases-loop-i l = l.hi - l.i

-- `strikes::strike_targets` strikes what needs a card's shape at the ends of the links from it. The invariant: by those
-- below i it is struck. Assumes nothing.
use Prim.Native.Nat.{◌≤◌, ◌-◌}
use Rattle.bags.specs.Label.{incoming}
use Rattle.board.specs.Work.{work, Swept}
use Rattle.walks.specs.Walks.{Leaving}
use Rattle.strikes.specs.Strikes.{NeedGood}
use Rattle.strikes.proofs.strike.strike_targets.Given as goal

abbrev pub invariant-loop-i : goal.invariant-loop-i
invariant-loop-i l =
    (l.lo ≤ l.i) × (l.i ≤ l.hi)
    × Swept (Leaving (NeedGood incoming l.walk.script.now l.walk.names.now l.walk.shapes l.u.0) l.lo l.i)
    (work l.initial.grid
    l.initial.queue) (work l.grid l.queue)

abbrev pub decreases-loop-i : goal.decreases-loop-i
decreases-loop-i l = l.hi - l.i

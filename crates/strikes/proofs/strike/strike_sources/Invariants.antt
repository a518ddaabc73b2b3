-- `strikes::strike_sources` walks the chain of the links to a card, and strikes what needs it at their starts.
-- Assumes nothing.
use lib.ListN.{get_or}
use Rattle.bags.specs.Label.{outgoing}
use Rattle.script.specs.Link.{to_at}
use Rattle.board.specs.Work.{work}
use Rattle.strikes.specs.Strikes.{NeedGood}
use Rattle.walks.proofs.Walks.{Walking}
use Rattle.strikes.proofs.strike.strike_sources.Given as goal

abbrev pub invariant-loop-i : goal.invariant-loop-i
invariant-loop-i l =
    Walking (to_at l.walk.script.now) l.m (get_or l.walk.script.now 1 0)
    (NeedGood outgoing l.walk.script.now l.walk.names.now l.walk.shapes l.u.0)
    (work l.initial.grid l.initial.queue) (work l.grid l.queue) l.i-iterator.at l.i-iterator.next.now

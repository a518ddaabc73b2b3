-- `flood::follow_arriving` walks the chain of the links to a card, and strikes what they lead back to.
-- Assumes nothing.
use lib.ListN.{get_or}
use Rattle.bags.specs.Label.{incoming}
use Rattle.script.specs.Link.{to_at}
use Rattle.board.specs.Work.{work}
use Rattle.walks.specs.Entries.{LedGood}
use Rattle.walks.proofs.Walks.{Walking}
use Rattle.flood.proofs.follow_arriving.Given as goal

abbrev pub invariant-loop-i : goal.invariant-loop-i
invariant-loop-i l =
    Walking (to_at l.walk.script.now) l.m (get_or l.walk.script.now 1 0)
    (LedGood incoming l.walk.script.now l.row l.walk.shapes)
    (work l.initial.grid l.initial.queue) (work l.grid l.queue) l.i-iterator.at l.i-iterator.next.now

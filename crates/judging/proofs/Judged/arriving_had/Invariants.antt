-- `judging::Judged::arriving_had` walks the chain of the links to a card, and tests whether the grid has what they lead
-- to. Assumes nothing.
use lib.ListN.{get_or}
use Rattle.bags.specs.Label.{incoming}
use Rattle.script.specs.Link.{to_at}
use Rattle.board.specs.Grid.{on}
use Rattle.walks.proofs.Walks.{Testing}
use Rattle.judging.specs.Judging.{LinkGood}
use Rattle.judging.proofs.Judged.arriving_had.Given as goal

abbrev pub invariant-loop-i : goal.invariant-loop-i
invariant-loop-i l =
    let script = l.self.walk.script.now in
    Testing (to_at script) l.m (get_or script 1 0) (LinkGood incoming l.self l.row) (on l.self.grid.now)
    l.i-iterator.at l.i-iterator.next.now

-- `judging::Judged::leaving_had` tests whether the grid has what the links from a card lead to. The invariant: it has
-- what those below i lead to. Assumes nothing.
use Rattle.bags.specs.Label.{outgoing}
use Rattle.board.specs.Grid.{on}
use Rattle.walks.specs.Walks.{Leaving, HasAll}
use Rattle.judging.specs.Judging.{LinkGood}
use Rattle.judging.proofs.Judged.leaving_had.Given as goal

abbrev pub invariant-loop-i : goal.invariant-loop-i
invariant-loop-i l = HasAll (on l.self.grid.now) (Leaving (LinkGood outgoing l.self l.row) l.lo l.i)

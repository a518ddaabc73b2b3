-- `links::chain` chains the links: after i turns those below i.
-- Assumes nothing.
use Rattle.links.specs.Index.{ChainLeft}
use Rattle.links.proofs.index.chain.Given as goal

abbrev pub invariant-loop-i : goal.invariant-loop-i
invariant-loop-i l = ChainLeft l.script l.i l.initial.first l.initial.next l.first l.next

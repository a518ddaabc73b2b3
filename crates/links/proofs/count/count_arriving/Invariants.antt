-- `links::count_arriving` counts kinds along the chain of the links to a card: at each turn the links counted and
-- those below the next one are all. Assumes nothing.
use mathlib.Core.Path.{◌≡◌}
use lib.ListN.{length}
use Rattle.links.proofs.Arrivals.{CountedAlong}
use Rattle.links.proofs.count.count_arriving.Given as goal

abbrev pub invariant-loop-i : goal.invariant-loop-i
invariant-loop-i l =
    (length l.counts ≡ length l.initial.counts)
    × CountedAlong l.script l.links l.card l.counts l.i-iterator.at l.i-iterator.next.now

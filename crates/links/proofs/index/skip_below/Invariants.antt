-- `links::skip_below` walks to the first link that does not start below the card: no link before i does not.
-- Assumes nothing.
use Prim.Native.Nat.{◌≤◌}
use Rattle.script.specs.Link.{below}
use Rattle.links.proofs.index.skip_below.Given as goal

abbrev pub invariant-loop-i : goal.invariant-loop-i
invariant-loop-i l = l.i ≤ below l.script l.card l.links

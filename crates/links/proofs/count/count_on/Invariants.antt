-- `links::count_on` counts the links of a kind: before a link those before it are counted. Assumes nothing.
use Prim.Native.Nat.{◌+◌, ◌*◌}
use Rattle.links.proofs.Runs.{CountedOff}
use Rattle.links.proofs.count.count_on.Given as goal

abbrev pub invariant-loop-link : goal.invariant-loop-link
invariant-loop-link l = CountedOff l.links l.kind l.count (1 + 3 * l.link)

-- The cycle of calls {part, run}. The measure is twice the words left, and one more for a run, which starts with a part
-- at its own place. The invariant of `run` is `Remaining` of proofs/Remaining, of the parts left.
-- Assumes nothing.
use Prim.Native.Nat.{◌+◌, ◌-◌, ◌*◌}
use Rattle.parts.proofs.Remaining.{Remaining}
use Rattle.parts.proofs.ShapeWords.+part_run.Given as goal

abbrev pub decreases-part : goal.decreases-part
decreases-part l = 2 * (l.self.now.end - l.at)

abbrev pub decreases-run : goal.decreases-run
decreases-run l = 2 * (l.self.now.end - l.at) + 1

-- what holds before each turn of `run`
abbrev pub invariant-run-loop : goal.invariant-run-loop
invariant-run-loop l =
    Remaining l.left l.self.words.now l.self.end l.self.sizes l.count l.at l.initial.row (l.count - l.counter) l.next
    l.row

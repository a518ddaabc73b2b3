-- `rounds::strike_rounds` strikes as the rounds of "Largest" do, level by level. Assumes nothing.
use Prim.Native.Nat.{◌≤◌, ◌-◌}
use lib.ListN.{length, get_or}
use Rattle.rounds.proofs.Rounds.{Rounding}
use Rattle.rounds.proofs.strike_rounds.Given as goal

abbrev pub invariant-loop-head : goal.invariant-loop-head
invariant-loop-head l =
    Rounding l.walk.script.now l.walk.names.now l.walk.shapes l.initial.grid l.initial.queue.places.now l.grid l.queue
    l.head l.tally ×
    (l.last ≤ get_or l.walk.script.now 0 0 - 1)

abbrev pub decreases-loop-head : goal.decreases-loop-head
decreases-loop-head l = length l.initial.grid - l.head

-- `flood::flood_from` leaves the closure of what was queued. Assumes nothing.
use mathlib.Core.List.{List}
use Prim.Native.Nat.{ℕ, ◌≤◌, ◌-◌}
use lib.ListN.{length, get_or}
use Rattle.board.specs.Work.{work, entry, Queued}
use Rattle.board.proofs.Flooding.{Flooding}
use Rattle.typing.specs.Needs.{board_of}
use Rattle.flood.proofs.flood_from.Given as goal

abbrev pub invariant-loop-head : goal.invariant-loop-head
invariant-loop-head l =
    (l.last ≤ get_or l.walk.script.now 0 0 - 1)
    × ((fits : List ℕ)
    → Flooding (board_of l.walk.script.now l.walk.names.now l.walk.shapes fits)
    (Queued (entry l.initial.queue.places.now) l.initial.queue.len) (length l.initial.queue.places.now)
    (work l.grid l.queue) l.head)

abbrev pub decreases-loop-head : goal.decreases-loop-head
decreases-loop-head l =
    length l.initial.grid - l.head

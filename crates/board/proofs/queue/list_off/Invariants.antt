-- `board::list_off` lists what is not on. The invariant: the queue lists what is not on below `place`. Assumes nothing.
use mathlib.Core.Path.{◌≡◌}
use Prim.Native.Nat.{◌≤◌}
use lib.ListN.{length}
use Rattle.board.specs.Listing.{Listed}
use Rattle.board.proofs.queue.list_off.Given as goal

abbrev pub invariant-loop-place : goal.invariant-loop-place
invariant-loop-place l =
    (l.queue.len ≤ l.place) × (length l.queue.places.now ≡ length l.initial.queue.places.now) ×
    (l.queue.places.ghost_name ≡ l.initial.queue.places.ghost_name) ×
    Listed l.grid l.queue.places.now l.queue.len l.place

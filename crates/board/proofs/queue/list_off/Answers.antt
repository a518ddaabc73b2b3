-- `board::list_off` lists what is not on. The invariant: the queue lists what is not on below `place`. Assumes nothing.
use mathlib.Core.Path.{◌∙◌}
use native.Mathlib.Omega.{arith}
use lib.ListN.{length-set}
use Rattle.board.proofs.Grids.{on-yes, on-no}
use Rattle.board.proofs.Lists.{listed-none, listed-skip, listed-add}
use Rattle.board.proofs.queue.list_off.Goals as goal
use Rattle.board.proofs.queue.list_off.Goals.{then-byte-ne1, else-byte-ne1}

pub loop-place-init : goal.loop-place-init
loop-place-init c = (omega arith, omega arith, omega arith, listed-none c.args.grid.now c.args.queue.now.places.now)

pub loop-place-preserved : goal.loop-place-preserved
loop-place-preserved c =
    let grid = c.args.grid.now in
    let queue = c.loop-place.queue.places.now in
    let so_far = c.loop-place.invariant.3 in elim c.if-byte-ne1.branch [
      | then-byte-ne1 w ↦ rw (w.queue-is, w.push.ensures.places, w.push.ensures.len, w.push.ensures.lent) (
        omega arith,
        length-set queue c.loop-place.queue.len c.loop-place.place ∙ c.loop-place.invariant.1,
        c.loop-place.invariant.2,
        listed-add grid queue so_far (on-no grid c.loop-place.place w.if-byte-ne1.true) (omega arith),
      )
      | else-byte-ne1 w ↦ rw w.queue-is (
        omega arith,
        c.loop-place.invariant.1,
        c.loop-place.invariant.2,
        listed-skip grid queue so_far (on-yes grid c.loop-place.place w.if-byte-ne1.false),
      )
    ]

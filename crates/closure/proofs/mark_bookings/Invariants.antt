-- `closure::mark_bookings` turns the pairs of a desk's bookings off. The invariant: those of the first `i` bookings are
-- off, and no others. Assumes nothing.
use mathlib.Core.Path.{◌≡◌}
use lib.ListN.{length}
use Rattle.closure.specs.Closing.{Marked}
use Rattle.closure.proofs.mark_bookings.Given as goal

abbrev pub invariant-loop-i : goal.invariant-loop-i
invariant-loop-i l =
    (length l.grid ≡ length l.initial.grid) × Marked l.bookings l.desk l.shapes l.i l.grid

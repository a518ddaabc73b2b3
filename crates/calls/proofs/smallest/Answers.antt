-- `calls::smallest` answers as the format says: a law of proofs/WaysOut where the bookings are settled.
-- Assumes nothing.
use native.Mathlib.Omega.{arith}
use Rattle.lent.proofs.KnownSheet.{sheet, asked, few-pairs}
use Rattle.lent.proofs.Readings.{lent-asked}
use Rattle.calls.proofs.WaysOut.{smallest-done}
use Rattle.calls.proofs.smallest.Goals as goal

pub slice_bounds-fitting-end : goal.slice_bounds-fitting-end
slice_bounds-fitting-end c =
    let l = c.in_ok-e.ensures in
    omega (arith, c.grid_size-size.ensures, few-pairs l.booked.known)

pub returns : goal.returns
returns c =
    let l = c.in_ok-e.ensures in
    let k = l.booked.known in
    smallest-done _ _ _ _ _ (sheet k) (lent-asked l) _ _
    ((rw c.list_sheet-listed.ensures at c.smallest_of.ensures) (sheet k) (asked k))

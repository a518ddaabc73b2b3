-- `both::both_typings` answers as the format says of both calls: a law of proofs/WaysOut for each way out.
-- Assumes nothing.
use native.Mathlib.Omega.{arith}
use Rattle.lent.proofs.KnownSheet.{sheet, asked}
use Rattle.lent.proofs.Readings.{lent-asked}
use Rattle.both.proofs.WaysOut.{both-large, both-done}
use Rattle.both.proofs.both_typings.Goals as goal

pub returns-then-large-grid_size : goal.returns-then-large-grid_size
returns-then-large-grid_size c =
    let l = c.in_ok-e.ensures in
    both-large _ _ _ _ _ (sheet l.booked.known) (lent-asked l) (λ e. omega (arith, c.grid_size.ensures))

pub returns : goal.returns
returns c =
    let l = c.in_ok-e.ensures in
    let k = l.booked.known in
    both-done _ _ _ _ _ (sheet k) (lent-asked l) _ _ (omega (arith, c.grid_size.ensures))
    ((rw c.list_sheet-listed.ensures at c.both_of.ensures) (sheet k) (asked k))

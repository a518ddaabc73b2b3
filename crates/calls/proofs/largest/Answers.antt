-- `calls::largest` answers as the format says: a law of proofs/WaysOut for each way out. Assumes nothing.
use native.Mathlib.Omega.{arith}
use Rattle.lent.proofs.KnownSheet.{sheet, asked}
use Rattle.calls.proofs.WaysOut.{largest_size, largest-done}
use Rattle.calls.proofs.largest.Goals as goal

pub returns-then-grid-grid_size : goal.returns-then-grid-grid_size
returns-then-grid-grid_size c =
    let k = c.in_ok-e.ensures in
    largest_size _ _ (sheet k) (asked k) _ (λ e. omega (arith, c.grid_size.ensures))

pub returns : goal.returns
returns c =
    let k = c.in_ok-e.ensures in
    largest-done _ _ (sheet k) (asked k) _ _ _ (omega (arith, c.grid_size.ensures))
    (c.largest_of.ensures (sheet k) (asked k))

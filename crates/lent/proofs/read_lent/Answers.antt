-- `lent::read_lent` reads the files, and looks at the desk and at the grid: a law of proofs/Readings for each answer.
-- Assumes nothing.
use native.Mathlib.Omega.{arith}
use Rattle.lent.proofs.Readings.{listed-asked, desk-refused, size-refused}
use Rattle.lent.proofs.read_lent.Goals as goal

pub returns-then-desk-gt1 : goal.returns-then-desk-gt1
returns-then-desk-gt1 c =
    desk-refused _ _ _ (listed-asked c.in_ok-e.ensures) c.args.grid.now c.if-desk-gt1.true

pub returns-then-grid-grid_size : goal.returns-then-grid-grid_size
returns-then-grid-grid_size c =
    size-refused _ _ _ (listed-asked c.in_ok-e.ensures) c.args.grid.now c.if-desk-gt1.false
    (λ e. omega (arith, e, c.grid_size.ensures))

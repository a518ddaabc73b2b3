-- `text::Writer::shape` adds a shape where the grid has its place, else nothing. Assumes nothing.
use mathlib.Core.Path.{ap}
use mathlib.Core.List.{◌∷◌}
use native.Mathlib.Omega.{arith}
use lib.ListN.{length}
use Rattle.text.specs.Text.{digits, space}
use Rattle.text.proofs.Adding.{adds_nothing, adds-append, adds-same}
use Rattle.text.proofs.Lines.{shown, hidden}
use Rattle.text.proofs.Writer.shape.Goals as goal

pub byte-requires : goal.byte-requires
byte-requires c =
    let text = space ∷ digits c.args.shape in
    omega (arith, ap length (shown c.args.grid.now c.args.place text c.if-grid-place-eq1.true))

pub number-requires : goal.number-requires
number-requires c =
    let text = space ∷ digits c.args.shape in
    omega (arith, ap length (shown c.args.grid.now c.args.place text c.if-grid-place-eq1.true))

pub returns-then-grid-place-eq1 : goal.returns-then-grid-place-eq1
returns-then-grid-place-eq1 c =
    adds-same (adds-append c.byte.ensures c.number.ensures)
    (shown c.args.grid.now c.args.place _ c.if-grid-place-eq1.true)

pub returns-else-grid-place-eq1 : goal.returns-else-grid-place-eq1
returns-else-grid-place-eq1 c =
    adds-same (adds_nothing _ (omega arith)) (hidden c.args.grid.now c.args.place _ c.if-grid-place-eq1.false)

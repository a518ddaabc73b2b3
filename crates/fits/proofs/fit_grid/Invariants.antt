-- `fits::fit_grid` meets its contract. The invariant: the loop is at the shape's place, and the shapes before it have
-- their columns. Assumes nothing.
use Rattle.fits.proofs.Cells.{ShapesFitted}
use Rattle.fits.proofs.fit_grid.Given as goal

abbrev pub invariant-loop-t : goal.invariant-loop-t
invariant-loop-t l =
    ShapesFitted l.sheet.template.now l.sheet.script.now l.sheet.extent l.grid l.at l.t

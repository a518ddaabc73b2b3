-- `fits::fit_shape` meets its contract. The invariant: the cards before the loop's have their bytes under the shape,
-- a twin's among them. Assumes nothing.
use Rattle.fits.proofs.Cells.{CardsFitted}
use Rattle.fits.proofs.fit_shape.Given as goal

abbrev pub invariant-loop-n : goal.invariant-loop-n
invariant-loop-n l =
    CardsFitted l.sheet.template.now l.sheet.script.now l.sheet.extent l.t l.initial.grid l.grid l.n

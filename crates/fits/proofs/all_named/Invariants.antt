-- `fits::all_named` meets its contract. The invariant: the kinds of the links so far have entries. Assumes nothing.
use Rattle.fits.proofs.CardTests.{NamedTo}
use Rattle.fits.proofs.all_named.Given as goal

abbrev pub invariant-loop-i : goal.invariant-loop-i
invariant-loop-i l = NamedTo l.row l.links l.i

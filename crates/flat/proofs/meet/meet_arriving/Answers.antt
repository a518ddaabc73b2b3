-- `flat::meet::meet_arriving` goes along the counts of the last labels; the invariant is Arrived.
-- Assumes nothing.
use mathlib.Core.Path.{refl}
use native.Mathlib.Omega.{arith}
use Rattle.flat.proofs.MeetingCards.{demand-few}
use Rattle.flat.proofs.Along.{arrived-start, arrived-next, arrived-done}
use Rattle.flat.proofs.meet.meet_arriving.Goals as goal
use Rattle.flat.proofs.meet.meet_arriving.Goals.{After-place_of-place}

pub loop-k-init : goal.loop-k-init
loop-k-init c = arrived-start _ _ _ _ _ c.requires.found-few

pub overflow_add-found : goal.overflow_add-found
overflow_add-found c =
    let one = demand-few c.args.words.now c.place_of-place.result in
    omega (arith, c.must-found.ensures, c.loop-k.invariant.few, c.loop-k.invariant.inside)

pub loop-k-preserved : goal.loop-k-preserved
loop-k-preserved c =
    rw c.must-found.ensures
    (arrived-next c.loop-k.invariant _ _ _ c.loop-k-test.true refl
    c.place_of-place.ensures.none c.place_of-place.ensures.some
    c.meet_link-span.ensures)

pub returns : goal.returns
returns c = arrived-done c.loop-k.invariant c.requires.few c.loop-k-test.false

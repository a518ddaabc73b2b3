-- `desks::desks_tested` settles each desk's bookings and strikes rounds, of each sheet whose fitting pairs it was lent.
-- Assumes nothing.
use Rattle.searches.proofs.Settling.{both-of-found}
use Rattle.desks.proofs.desks_tested.Goals as goal

pub settle-one-requires : goal.settle-one-requires
settle-one-requires c =
    let asked = c.requires in
    record { some = asked.strikes.some; list = asked.list; size = asked.radio-size }

pub settle-other-requires : goal.settle-other-requires
settle-other-requires c =
    let asked = c.requires in
    record { some = asked.strikes.some; list = asked.list; size = asked.television-size }

pub strike-largest-requires : goal.strike-largest-requires
strike-largest-requires c = c.requires.strikes

pub returns : goal.returns
returns c s t =
    let bookings = c.args.listed.now.bookings.now in
    let large = c.strike-largest.ensures s t in
    record {
      radio = both-of-found t bookings 0 c.requires.list large (c.settle-one.ensures s t);
      television = both-of-found t bookings 1 c.requires.list large (c.settle-other.ensures s t);
    }

-- `both::both_of` chains the links to each card, tests the pairs, settles the bookings and strikes rounds.
-- Assumes nothing.
use Rattle.pairs.proofs.Links.{arrivals-asked}
use Rattle.searches.proofs.Settling.{both-of-found}
use Rattle.both.proofs.both_of.Goals as goal

pub chain_arrivals-requires : goal.chain_arrivals-requires
chain_arrivals-requires c = arrivals-asked c.requires.lent.booked.known

pub settle-smallest-requires : goal.settle-smallest-requires
settle-smallest-requires c =
    let lent = c.requires.lent in
    record { some = c.test_pairs.ensures.some; list = lent.booked.list; size = lent.size }

pub strike-largest-requires : goal.strike-largest-requires
strike-largest-requires c =
    record { some = c.test_pairs.ensures.some; arriving = c.chain_arrivals.ensures.arriving }

pub returns : goal.returns
returns c s q =
    let t = c.test_pairs.ensures.tested s q in
    both-of-found t c.args.listed.now.bookings.now c.args.desk c.requires.lent.booked.list
    (c.strike-largest.ensures s t) (c.settle-smallest.ensures s t)

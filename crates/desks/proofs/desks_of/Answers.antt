-- `desks::desks_of` chains the links to each card, tests the pairs, settles each desk's bookings and strikes rounds.
-- Assumes nothing.
use Rattle.pairs.proofs.Links.{arrivals-asked}
use Rattle.desks.proofs.desks_of.Goals as goal

pub chain_arrivals-requires : goal.chain_arrivals-requires
chain_arrivals-requires c = arrivals-asked c.requires.booked.known

pub desks_tested-requires : goal.desks_tested-requires
desks_tested-requires c =
    let lent = c.requires in
    record {
      strikes = record { some = c.test_pairs.ensures.some; arriving = c.chain_arrivals.ensures.arriving };
      list = lent.booked.list;
      radio-size = lent.radio-size;
      television-size = lent.television-size;
    }

pub returns : goal.returns
returns c s q =
    c.desks_tested.ensures s (c.test_pairs.ensures.tested s q)

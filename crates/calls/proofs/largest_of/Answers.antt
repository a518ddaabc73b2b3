-- `calls::largest_of` chains the links to each card, tests the pairs and strikes rounds. Assumes nothing.
use Rattle.pairs.proofs.Links.{arrivals-asked}
use Rattle.calls.proofs.largest_of.Goals as goal

pub chain_arrivals-requires : goal.chain_arrivals-requires
chain_arrivals-requires c = arrivals-asked c.requires.known

pub strike-requires : goal.strike-requires
strike-requires c =
    record { some = c.test_pairs.ensures.some; arriving = c.chain_arrivals.ensures.arriving }

pub returns : goal.returns
returns c s q =
    c.strike.ensures s (c.test_pairs.ensures.tested s q)

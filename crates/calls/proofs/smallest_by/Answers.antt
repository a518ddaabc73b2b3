-- `calls::smallest_by` tests the pairs and settles the bookings. Assumes nothing.
use Rattle.calls.proofs.smallest_by.Goals as goal

pub returns : goal.returns
returns c s q =
    c.settle.ensures s (c.test_pairs.ensures.tested s q)

-- `stored::read_stored` reads a stored list: its count and length first, and then its bookings.
-- Assumes nothing.
use Rattle.bookings.proofs.Reading.{counted-listed}
use Rattle.stored.proofs.read_stored.Goals as goal

pub returns : goal.returns
returns c = counted-listed 2 _ _ c.in_ok-count.ensures c.read_stored_pairs.ensures

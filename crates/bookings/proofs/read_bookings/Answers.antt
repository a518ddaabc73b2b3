-- `bookings::read_bookings` reads a list of both desks: its count and length first, and then its bookings.
-- Assumes nothing.
use Rattle.bookings.proofs.Reading.{counted-listed}
use Rattle.bookings.proofs.read_bookings.Goals as goal

pub returns : goal.returns
returns c = counted-listed 3 _ _ c.in_ok-count.ensures c.read_pairs.ensures

-- `bookings::enter_booking` looks a booking up along the chain of its card. The invariant: what is below the booking
-- that it stands at decides.
-- Assumes nothing.
use Prim.Native.Nat.{ℕ}
use Rattle.bookings.specs.Bookings.{Booking}
use Rattle.bookings.proofs.Repeats.{Looking}
use Rattle.bookings.proofs.lookup.enter_booking.Given as goal

-- what is looked up
abbrev pub it : ℕ → ℕ → ℕ → Booking
it desk card shape = record { desk = desk; card = card; shape = shape }

abbrev pub invariant-loop-j : goal.invariant-loop-j
invariant-loop-j l =
    Looking l.bookings (it l.desk l.fn.card.0 l.shape.0) l.k l.j-iterator.at l.j-iterator.next.now

-- `bookings::read_pairs` reads the bookings one by one: before booking i the reading from there on is the whole
-- reading, and those before it are chained by their cards. Assumes nothing.
use Prim.Native.Nat.{ℕ, ◌-◌, ◌≤◌}
use mathlib.Core.Path.{◌≡◌}
use mathlib.Core.List.{List}
use lib.ListN.{length}
use Rattle.words.specs.Reading.{accepted}
use Rattle.words.specs.Limits.{max_cards, max_bookings}
use Rattle.words.specs.Chain.{Chained}
use Rattle.bookings.specs.Bookings.{card_at, read_each, booking_rule}
use Rattle.bookings.proofs.read_pairs.Given as goal

-- The first i bookings are read, and chained by their cards.
pub record ReadTo (cards shapes count : ℕ) (bookings : List ℕ) (pairs : ℕ) (first next : List ℕ) (i : ℕ) : Type 0 where
  pub within : i ≤ pairs
  pub heads : length first ≡ max_cards
  pub links : length next ≡ max_bookings
  pub chained : Chained (card_at bookings) first next i
  pub rest : read_each (booking_rule cards shapes bookings) count 0 (accepted count)
      ≡ read_each (booking_rule cards shapes bookings) (pairs - i) i (accepted count)

abbrev pub invariant-loop-i : goal.invariant-loop-i
invariant-loop-i l =
    ReadTo l.cards l.shapes l.count l.bookings l.pairs l.first l.next l.i

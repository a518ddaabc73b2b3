-- `stored::read_stored_pairs` reads the bookings one by one: before booking i the reading from there on is the whole
-- reading. Assumes nothing.
use Prim.Native.Nat.{ℕ, ◌-◌, ◌≤◌}
use mathlib.Core.Path.{◌≡◌}
use mathlib.Core.List.{List}
use Rattle.words.specs.Reading.{accepted}
use Rattle.bookings.specs.Bookings.{read_each}
use Rattle.stored.specs.Stored.{stored_rule}
use Rattle.stored.proofs.read_stored_pairs.Given as goal

-- The first i bookings are read.
pub record ReadTo (cards shapes count : ℕ) (bookings : List ℕ) (pairs i : ℕ) : Type 0 where
  pub within : i ≤ pairs
  pub rest : read_each (stored_rule cards shapes bookings) count 0 (accepted count)
      ≡ read_each (stored_rule cards shapes bookings) (pairs - i) i (accepted count)

abbrev pub invariant-loop-i : goal.invariant-loop-i
invariant-loop-i l = ReadTo l.cards l.shapes l.count l.bookings l.pairs l.i

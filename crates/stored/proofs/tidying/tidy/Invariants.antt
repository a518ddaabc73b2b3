-- `stored::tidy` writes the first booking of each pair: before booking i those of the bookings before it stand in the
-- buffer, chained by their cards. Assumes nothing.
use Prim.Native.Nat.{ℕ, ◌-◌, ◌≤◌}
use mathlib.Core.Path.{◌≡◌}
use mathlib.Core.List.{List}
use lib.ListN.{length}
use Rattle.words.specs.Limits.{max_cards, max_bookings}
use Rattle.stored.specs.Stored.{stored_at}
use Rattle.stored.proofs.Keeping.{Keeping}
use Rattle.stored.proofs.tidying.tidy.Given as goal

-- Of the first i bookings those of each pair are written, and chained by their cards.
pub record TidiedTo (bookings before : List ℕ) (pairs : ℕ) (out first next : List ℕ) (kept i : ℕ) : Type 0 where
  pub within : i ≤ pairs
  pub few : kept ≤ i
  pub heads : length first ≡ max_cards
  pub links : length next ≡ max_bookings
  pub keeping : Keeping (stored_at bookings) before out first next kept i

abbrev pub invariant-loop-i : goal.invariant-loop-i
invariant-loop-i l =
    TidiedTo l.bookings l.initial.out l.pairs l.out l.first l.next l.kept l.i

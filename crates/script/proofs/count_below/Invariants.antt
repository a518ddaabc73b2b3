-- `script::count_below` finds its count by halving: the links before lo start below the card, those from hi on do not.
-- Assumes nothing.
use Prim.Native.Nat.{ℕ, ◌-◌, ◌≤◌, ◌<◌}
use Rattle.script.specs.Link.{from_at}
use Rattle.script.proofs.count_below.Given as goal

abbrev pub invariant-loop-lo : goal.invariant-loop-lo
invariant-loop-lo l =
    (l.lo ≤ l.hi)
    × (l.hi ≤ l.links)
    × ((k : ℕ) → k < l.lo → from_at l.script k < l.card)
    × ((k : ℕ) → l.hi ≤ k → k < l.links → l.card ≤ from_at l.script k)

abbrev pub decreases-loop-lo : goal.decreases-loop-lo
decreases-loop-lo l = l.hi - l.lo

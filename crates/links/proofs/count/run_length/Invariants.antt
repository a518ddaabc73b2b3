-- `links::run_length` goes on along the links of one kind: the links passed are of it. Assumes nothing.
use Prim.Native.Nat.{ℕ, ◌+◌, ◌*◌, ◌/◌}
use mathlib.Core.Path.{◌≡◌}
use Rattle.links.proofs.Runs.{RunTo}
use Rattle.links.proofs.count.run_length.Given as goal

abbrev pub invariant-loop-link : goal.invariant-loop-link
invariant-loop-link l =
    (l.link ≡ l.at / 3 + l.count) × ((first : ℕ) → l.at ≡ 1 + 3 * first → RunTo l.links first l.kind l.count)

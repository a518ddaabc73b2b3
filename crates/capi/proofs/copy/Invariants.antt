-- `capi::copy` copies words from the start, as many as both slices have: so many stand there already. Assumes nothing.
use Rattle.std.proofs.Common.{◌≡◌, ◌-◌, ◌≤◌, length, take, drop, ◌++◌}
use Rattle.capi.proofs.copy.Given as goal

abbrev pub invariant-loop-i : goal.invariant-loop-i
invariant-loop-i l =
    (l.i ≤ length l.from) × (l.i ≤ length l.to) × (length l.to ≡ length l.initial.to)
    × (l.to ≡ take l.i l.from ++ drop l.i l.initial.to)

abbrev pub decreases-loop-i : goal.decreases-loop-i
decreases-loop-i l = length l.initial.to - l.i

-- `links::link_starts` fills the table of starts: after c turns the cards below c have theirs.
-- Assumes nothing.
use Prim.Native.Nat.{ℕ, ◌≤◌, ◌<◌}
use mathlib.Core.Path.{◌≡◌}
use lib.ListN.{length, get_or}
use Rattle.script.specs.Link.{below}
use Rattle.links.proofs.index.link_starts.Given as goal

abbrev pub invariant-loop-c : goal.invariant-loop-c
invariant-loop-c l =
    (l.i ≤ below l.script l.c l.links)
    × (length l.starts ≡ length l.initial.starts)
    × ((k : ℕ) → k < l.c → get_or l.starts k 0 ≡ below l.script k l.links)

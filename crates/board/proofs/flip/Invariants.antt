-- `board::flip` turns every place round. The invariant: those below the index are, the others are as they were.
-- Assumes nothing.
use mathlib.Core.Path.{◌≡◌}
use mathlib.Core.Logic.{◌⊎◌}
use mathlib.Core.Bool.{not}
use Prim.Native.Nat.{ℕ, ◌≤◌, ◌<◌}
use lib.ListN.{get_or}
use Rattle.board.specs.Grid.{on}
use Rattle.board.proofs.flip.Given as goal

abbrev pub invariant-loop-byte : goal.invariant-loop-byte
invariant-loop-byte l = record {
  opposite : (p : ℕ) → p < l.byte-index → on l.grid p ≡ not (on l.initial.grid p);
  marks : (p : ℕ) → p < l.byte-index → (get_or l.grid p 0 ≡ 0) ⊎ (get_or l.grid p 0 ≡ 1);
  rest : (p : ℕ) → l.byte-index ≤ p → get_or l.grid p 0 ≡ get_or l.initial.grid p 0;
}

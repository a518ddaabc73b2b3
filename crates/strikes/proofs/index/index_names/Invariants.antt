-- `strikes::index_names` chains the places of a half of the table. The invariant: those below p are chained, and from p
-- on the links of the chains are 0. Assumes nothing.
use mathlib.Core.Path.{◌≡◌}
use Prim.Native.Nat.{ℕ, ◌≤◌, ◌<◌}
use mathlib.Core.List.{List}
use lib.ListN.{length, get_or}
use Rattle.words.specs.Chain.{Chained}
use Rattle.strikes.specs.Indexes.{entry_key}
use Rattle.strikes.proofs.index.index_names.Given as goal

-- The places below p are chained in lists as long as before, and the others still have links of 0.
pub record IndexedTo (names : List ℕ) (start heads links : ℕ) (first next : List ℕ) (p : ℕ) : Type 0 where
  pub keys : length first ≡ heads
  pub places : length next ≡ links
  pub chained : Chained (entry_key names start) first next p
  pub zeros : (i : ℕ) → p ≤ i → i < length next → get_or next i 0 ≡ 0

abbrev pub invariant-loop-p : goal.invariant-loop-p
invariant-loop-p l =
    IndexedTo l.names l.start (length l.initial.first) (length l.initial.next) l.first l.next l.p

-- `take_links` meets its contract. The invariant: the parts before, with the links taken, are first parts of a run.
-- Assumes nothing.
use Prim.Native.Nat.{ℕ, ◌+◌, ◌≤◌}
use mathlib.Core.List.{List}
use Rattle.links.specs.Runs.{amount, KindsPassed}
use Rattle.joins.specs.declared.Eval.{Eval}
use Rattle.joins.proofs.Beginnings.{Grows}
use Rattle.joins.proofs.take_links.Given as goal

-- So many links are taken, and a kind is counted up to a place.
pub record Taking (words links listed : List ℕ) (left parts code : ℕ) (before e : Eval) (count kind place : ℕ)
    : Type 0 where
  pub few : count ≤ parts
  pub passed : KindsPassed links (kind + 1) place
  pub grows : Grows (amount links listed) words left code before count e

abbrev pub invariant-loop-count : goal.invariant-loop-count
invariant-loop-count l =
    Taking l.words l.amounts.links.now l.amounts.listed.now l.left l.parts l.code l.initial.eval l.eval l.count
    l.counted.kind l.counted.next

-- The proof of the cycle of calls {part, run}. The measure is the words left, times more than a count of parts can be,
-- and the count of a run. The invariant of `run`: so many first parts of it are evaluated.
-- Assumes nothing.
use Prim.Native.Nat.{ℕ, ◌≤◌, ◌+◌, ◌-◌, ◌*◌}
use lib.ListN.{length}
use mathlib.Core.List.{List}
use Rattle.links.specs.Runs.{amount}
use Rattle.joins.specs.declared.Eval.{Eval}
use Rattle.joins.specs.Evaluation.{Begins}
use Rattle.evaluator.proofs.+part_run.Given as goal

-- what holds before each turn of `run`: so many first parts are evaluated
pub record RunBegun (words links listed : List ℕ) (at left parts code : ℕ) (whole : Eval) (done : ℕ) : Type 0 where
  pub few : done ≤ parts
  pub begun : Begins (amount links listed) words left at code done whole

abbrev pub invariant-run-loop-done : goal.invariant-run-loop-done
invariant-run-loop-done l =
    RunBegun l.words l.amounts.links.now l.amounts.listed.now l.at l.left l.parts l.code l.whole l.done

abbrev pub decreases-run-loop-done : goal.decreases-run-loop-done
decreases-run-loop-done l = l.parts - l.done

abbrev pub decreases-part : goal.decreases-part
decreases-part l = 65537 * (length l.words.now - l.at)

abbrev pub decreases-run : goal.decreases-run
decreases-run l = 65537 * (length l.words.now - l.at) + l.parts + 1

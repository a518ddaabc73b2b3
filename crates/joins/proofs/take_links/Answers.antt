-- `take_links` meets its contract. The invariant: the parts before, with the links taken, are first parts of a run.
-- Assumes nothing.
use mathlib.Core.Path.{◌≡◌, refl}
use native.Mathlib.Omega.{arith}
use Rattle.joins.specs.Evaluation.{LinkHere}
use Rattle.joins.proofs.Beginnings.{grows-link, begins-small}
use Rattle.joins.proofs.take_links.Goals as goal
use Rattle.joins.proofs.take_links.Goals.{Else-not-is_link}

-- A link stands where the loop does, if the test says so.
link_here : (c : Else-not-is_link) → LinkHere c.args.words.now c.loop-count.eval.next
link_here c = c.is_link.ensures (grind arith)

pub join_link-eval-requires : goal.join_link-eval-requires
join_link-eval-requires c =
    let s = c.requires in
    record {
      here = link_here (goal.at.join_link-eval-requires c).Else-not-is_link;
      short = s.short;
      small = begins-small _ _ _ _ _ _ _ (c.loop-count.invariant.grows _ _ s.begun) s.short;
    }

pub loop-count-preserved : goal.loop-count-preserved
loop-count-preserved c =
    let counted = c.count_next-counted.ensures in
    let here = link_here (goal.at.loop-count-preserved c).Else-not-is_link in
    record {
      few = omega arith;
      passed = counted.passed;
      grows = grows-link _ _ _ _ _ _ _ c.loop-count.invariant.grows _ _ _ (omega arith) here refl counted.exact
          (omega arith) c.join_link-eval.ensures;
    }

pub returns : goal.returns
returns c =
    let all : c.loop-count.count ≡ c.args.parts = omega arith in
    rw (← all) (record { few = omega arith; begins = c.loop-count.invariant.grows })

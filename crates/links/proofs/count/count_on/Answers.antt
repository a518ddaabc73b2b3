-- `links::count_on` counts the links of a kind: before a link those before it are counted. Assumes nothing.
use Prim.Native.Nat.{◌+◌, ◌*◌, ◌/◌}
use mathlib.Core.Path.{◌≡◌, subst}
use native.Mathlib.Omega.{arith}
use Rattle.links.specs.Runs.{KindsPassed}
use Rattle.links.proofs.Runs.{CountedOff, off-start, off-same, off-other, off_small, off-above, off-end}
use Rattle.links.proofs.count.count_on.Goals as goal
use Rattle.links.proofs.count.count_on.Goals.{then-kind-links+else-kind-links-2, else-kind-links}

-- the place of the first link that is looked at, from its number
pub loop-link-init : goal.loop-link-init
loop-link-init c =
    let passed = c.start_of-start.ensures _ c.requires.passed in
    let place : c.start_of-start.result ≡ 1 + 3 * (c.start_of-start.result / 3) = omega (arith, passed.place) in
    off-start _ _ _ (subst (KindsPassed c.args.links.now c.args.kind) place passed)

pub returns-then-kind-links-2 : goal.returns-then-kind-links-2
returns-then-kind-links-2 c =
    record {
      exact = off-above c.requires.rise c.loop-link.invariant (omega arith) (omega arith);
      passed = c.loop-link.invariant.passed;
    }

pub overflow_add-count : goal.overflow_add-count
overflow_add-count c = omega (arith, off_small c.requires.rise c.loop-link.invariant)

pub loop-link-preserved : goal.loop-link-preserved
loop-link-preserved c =
    let rise = c.requires.rise in
    let off = c.loop-link.invariant in
    let further : 1 + 3 * c.loop-link.link + 3 ≡ 1 + 3 * (c.loop-link.link + 1) = omega arith in
    elim c.if-kind-links.branch [
      | then-kind-links+else-kind-links-2 w ↦ rw w.count-is
          (subst (CountedOff c.args.links.now c.args.kind (c.loop-link.count + 1)) further
          (off-same rise off (omega arith) (omega arith)))
      | else-kind-links w ↦ rw w.count-is (subst (CountedOff c.args.links.now c.args.kind c.loop-link.count)
          further (off-other rise off (omega arith) (omega arith)))
    ]

pub returns : goal.returns
returns c = off-end c.requires.rise c.loop-link.invariant (omega (arith, c.requires.rise.size))

-- `links::run_length` goes on along the links of one kind: the links passed are of it. Assumes nothing.
use Prim.Native.Nat.{ℕ, ◌+◌, ◌*◌}
use mathlib.Core.Path.{◌≡◌, sym, ◌∙◌}
use native.Mathlib.Omega.{arith}
use lib.ListN.{get_or}
use Rattle.links.specs.Runs.{kind_in}
use Rattle.links.proofs.Runs.{kind_at, run-start, run_more, run_ends}
use Rattle.links.proofs.count.run_length.Goals as goal
use Rattle.links.proofs.count.run_length.Goals.{At-loop-link}

-- The kind that a turn looks at is that of the link after those passed.
kind-is : (l : At-loop-link) (first : ℕ) → l.args.at ≡ 1 + 3 * first
    → get_or l.args.links.now (1 + 3 * l.loop-link.link) 0
    ≡ kind_in l.args.links.now (first + l.loop-link.count)
kind-is l first e = kind_at _ _ _ (omega arith)

pub loop-link-init : goal.loop-link-init
loop-link-init c = (omega arith, λ first e. run-start c.requires first e)

pub returns-then-links-link : goal.returns-then-links-link
returns-then-links-link c =
    λ first e. run_ends c.requires.rise (c.loop-link.invariant.1 first e) (λ h q. c.if-links-link.true (kind-is
    (goal.at.returns-then-links-link c).At-loop-link first e ∙ q))

pub loop-link-preserved : goal.loop-link-preserved
loop-link-preserved c = (
  omega arith,
  λ first e.
      run_more c.requires.rise (c.loop-link.invariant.1 first e) (omega arith)
      (sym (kind-is (goal.at.loop-link-preserved c).At-loop-link first e) ∙ c.if-links-link.false),
)

pub returns : goal.returns
returns c =
    let rise = c.requires.rise in
    λ first e. run_ends rise (c.loop-link.invariant.1 first e) (λ h q. omega (arith, rise.size))

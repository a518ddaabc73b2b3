-- `links::count_arriving` counts kinds along the chain of the links to a card: at each turn the links counted and
-- those below the next one are all. Assumes nothing.
use Prim.Native.Nat.{◌<◌}
use mathlib.Core.Path.{◌≡◌, refl}
use native.Mathlib.Omega.{arith}
use lib.ListN.{length, length-set}
use Rattle.script.specs.Link.{kind_at}
use Rattle.words.proofs.Chains.{along-in}
use Rattle.links.proofs.Arrivals.{arrivals-fall, arriving-start, arriving-next, arriving-done, arriving-small}
use Rattle.links.proofs.count.count_arriving.Goals as goal
use Rattle.links.proofs.count.count_arriving.Goals.{After-from-kind}

-- The kind of the link that a turn looks at, and that it has a place among the counts.
kind-is : (a : After-from-kind) → a.from-kind.result ≡ kind_at a.args.script.now a.in-Some.i
unfolding kind_at
kind-is a = a.from-kind.ensures

kind-in : (a : After-from-kind) → a.from-kind.result < length a.loop-i.counts
kind-in a =
    let below = a.requires.kinds a.in-Some.i (along-in a.loop-i.invariant.1.chain a.in-Some.ensures.steps.1) in
    omega (arith, kind-is a, below, a.loop-i.invariant.0)

pub new-i-items-requires : goal.new-i-items-requires
new-i-items-requires c = arrivals-fall _ c.requires.arrivals

pub loop-i-init : goal.loop-i-init
loop-i-init c = (
  refl,
  rw (c.into_iter-i-iterator.ensures.into_iter_gives, c.new-i-items.ensures.at, c.new-i-items.ensures.next)
      (arriving-start c.requires.zeros c.requires.arrivals.chained (omega (arith, c.requires.arrivals.cards-in))),
)

pub overflow_add-counts : goal.overflow_add-counts
overflow_add-counts c =
    let a = (goal.at.overflow_add-counts c).After-from-kind in
    omega (arith, arriving-small c.loop-i.invariant.1 c.from-kind.result (kind-in a), c.requires.within.few)

pub loop-i-preserved : goal.loop-i-preserved
loop-i-preserved c =
    let a = (goal.at.loop-i-preserved c).After-from-kind in (
      simp length-set c.loop-i.invariant.0,
      arriving-next c.loop-i.invariant.1 c.in-Some.ensures.steps.1 c.from-kind.result (kind-is a) (kind-in a),
    )

pub returns : goal.returns
returns c =
    record {
      exact = λ k h. arriving-done c.loop-i.invariant.1 c.in-None.ensures.steps.0 k (omega (
        arith,
        c.loop-i.invariant.0,
      ));
      size = c.loop-i.invariant.0;
    }

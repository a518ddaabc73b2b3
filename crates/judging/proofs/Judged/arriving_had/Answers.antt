-- `judging::Judged::arriving_had` tests whether the grid has what the links to a card make good. Assumes nothing.
use mathlib.Core.Path.{◌≡◌, ◌∙◌}
use native.Mathlib.Omega.{arith}
use Rattle.words.proofs.Bools.{false-true, never_both}
use Rattle.words.proofs.Chains.{along-in}
use Rattle.bags.specs.Label.{incoming}
use Rattle.script.specs.Link.{from_at}
use Rattle.links.proofs.Arrivals.{arrivals-fall}
use Rattle.walks.proofs.Needs.{from-word}
use Rattle.walks.proofs.Walks.{test-start, test-next, test-one}
use Rattle.judging.proofs.Judged.arriving_had.Goals as goal
use Rattle.judging.proofs.Judged.arriving_had.Goals.{After-from}

-- the card that the link starts at, as it is read
from_is : (a : After-from) → a.from.result ≡ from_at a.args.self.now.walk.script.now a.in-Some.i
from_is a = a.from.ensures ∙ from-word a.args.self.now.walk.script.now a.in-Some.i

pub new-i-items-requires : goal.new-i-items-requires
new-i-items-requires c = arrivals-fall _ c.requires.arrivals

pub loop-i-init : goal.loop-i-init
loop-i-init c =
    rw (c.into_iter-i-iterator.ensures.into_iter_gives, c.new-i-items.ensures.at, c.new-i-items.ensures.next)
    (test-start c.requires.arrivals.chained (omega (arith, c.requires.arrivals.cards-in)))

pub link_had-requires : goal.link_had-requires
link_had-requires c = record {
  way = incoming;
  row_in = c.requires.row_in;
  link-in = along-in c.loop-i.invariant.chain c.in-Some.ensures.steps.1;
  leads = from_is (goal.at.link_had-requires c).After-from;
}

pub returns-then-not-link_had : goal.returns-then-not-link_had
returns-then-not-link_had c =
    let link = c.link_had.ensures incoming (from_is (goal.at.returns-then-not-link_had c).After-from) in (
      false-true,
      λ had. never_both (link.1 (test-one c.loop-i.invariant c.in-Some.ensures.steps.1 had)) c.if-not-link_had.true,
    )

pub loop-i-preserved : goal.loop-i-preserved
loop-i-preserved c =
    let link = c.link_had.ensures incoming (from_is (goal.at.loop-i-preserved c).After-from) in
    test-next c.loop-i.invariant c.in-Some.ensures.steps.1 (link.0 c.if-not-link_had.false)

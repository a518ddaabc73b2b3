-- `judging::Judged::leaving_had` tests whether the grid has what the links from a card make good. Assumes nothing.
use mathlib.Core.Path.{◌≡◌, ◌∙◌}
use native.Mathlib.Omega.{arith}
use Rattle.words.proofs.Bools.{false-true, never_both}
use Rattle.bags.specs.Label.{outgoing}
use Rattle.script.specs.Link.{to_at}
use Rattle.board.specs.Grid.{on}
use Rattle.walks.proofs.Needs.{to_word}
use Rattle.walks.proofs.Walks.{had-more, had-one}
use Rattle.judging.proofs.Judged.leaving_had.Goals as goal
use Rattle.judging.proofs.Judged.leaving_had.Goals.{After-from}

-- the card that the link leads to, as it is read
to_is : (a : After-from) → a.from.result ≡ to_at a.args.self.now.walk.script.now a.loop-i.i
to_is a = a.from.ensures ∙ to_word a.args.self.now.walk.script.now a.loop-i.i

pub link_had-requires : goal.link_had-requires
link_had-requires c = record {
  way = outgoing;
  row_in = c.requires.row_in;
  link-in = omega (arith, c.loop-i-test.true, c.requires.links-in);
  leads = to_is (goal.at.link_had-requires c).After-from;
}

pub returns-then-not-link_had : goal.returns-then-not-link_had
returns-then-not-link_had c =
    let link = c.link_had.ensures outgoing (to_is (goal.at.returns-then-not-link_had c).After-from) in (
      false-true,
      λ had. never_both (link.1 (had-one (on c.args.self.now.grid.now) c.loop-i.auto.i c.loop-i-test.true had))
          c.if-not-link_had.true,
    )

pub loop-i-preserved : goal.loop-i-preserved
loop-i-preserved c =
    let link = c.link_had.ensures outgoing (to_is (goal.at.loop-i-preserved c).After-from) in
    had-more (on c.args.self.now.grid.now) c.loop-i.invariant (link.0 c.if-not-link_had.false)

-- `rounds::strike_rounds` strikes as the rounds of "Largest" do, level by level.
-- Assumes nothing.
use mathlib.Core.Path.{subst}
use Prim.Native.Nat.{ℕ, ◌<◌, ◌*◌}
use native.Mathlib.Omega.{arith}
use lib.ListN.{get_or}
use Rattle.board.specs.Work.{work, Swept}
use Rattle.typing.specs.Needs.{Needs}
use Rattle.walks.proofs.Cards.{card-last}
use Rattle.rounds.proofs.Rounds.{rounds-start, rounds-few, rounds-tail, rounds-head, rounds-room}
use Rattle.rounds.proofs.Rounds.{Within, rounds-level, rounds-turn, source-asked, rounds-done}
use Rattle.rounds.proofs.strike_rounds.Goals as goal
use Rattle.rounds.proofs.strike_rounds.Goals.{After-at_head, After-at-q}

-- the tally has the closed rounds, and the head is within the level
levelled : (c : After-at_head) → Within c.loop-head.invariant.0 c.at_head.new.self
levelled c = rounds-level c.loop-head.invariant.0 c.loop-head-test.true c.at_head.ensures

-- the pair that is read is one of the sheet
read-in : (a : After-at-q) → a.at-q.result < get_or a.args.walk.now.script.now 0 0 * a.args.walk.now.shapes
read-in a =
    omega (arith, a.at-q.ensures, rounds-head a.loop-head.invariant.0 a.loop-head-test.true)

pub loop-head-init : goal.loop-head-init
loop-head-init c = (
  rounds-start c.requires.by.ready c.requires.lent c.requires.listed,
  omega arith,
)

pub at_head-requires : goal.at_head-requires
at_head-requires c = rounds-few c.loop-head.invariant.0

pub at-q-requires : goal.at-q-requires
at-q-requires c = omega (arith, c.loop-head-test.true, (rounds-tail c.loop-head.invariant.0).0)

pub source_card-m-requires : goal.source_card-m-requires
source_card-m-requires c =
    let out = c.requires.by in
    source-asked out.ready (read-in (goal.at.source_card-m-requires c).After-at-q) c.reciprocal-factor.ensures
    c.loop-head.invariant.1 out.arriving

pub strike_needing-requires : goal.strike_needing-requires
strike_needing-requires c =
    let r = c.loop-head.invariant.0 in
    record {
      by = c.requires.by;
      card = c.source_card-m.ensures;
      on-board = omega (arith, read-in (goal.at.strike_needing-requires c).After-at-q, r.search.full);
      full = r.search.full;
      room = rounds-room r;
    }

pub loop-head-smaller : goal.loop-head-smaller
loop-head-smaller c = omega (arith, c.loop-head-test.true, (rounds-tail c.loop-head.invariant.0).1)

pub loop-head-preserved : goal.loop-head-preserved
loop-head-preserved c =
    let Good = Needs c.args.walk.now.script.now c.args.walk.now.names.now c.args.walk.now.shapes in
    let w = work c.loop-head.grid c.loop-head.queue in
    let v = work c.strike_needing.new.grid c.strike_needing.new.queue in
    let (r, inside) = levelled (goal.at.loop-head-preserved c).After-at_head in (
      rounds-turn r inside
          (subst (λ (q : ℕ). Swept (λ p. Good p q) w v) c.at-q.ensures c.strike_needing.ensures),
      card-last c.requires.by.ready (read-in (goal.at.loop-head-preserved c).After-at-q)
          c.source_card-m.ensures,
    )

pub close_round-requires : goal.close_round-requires
close_round-requires c = rounds-few c.loop-head.invariant.0

pub returns : goal.returns
returns c = rounds-done c.loop-head.invariant.0 c.loop-head-test.false c.close_round.ensures

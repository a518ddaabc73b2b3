-- `strikes::strike_sources` walks the chain of the links to a card, and strikes what needs it at their starts.
-- Assumes nothing.
use mathlib.Core.Path.{subst, subst₂, ◌≡◌, sym, ◌∙◌, ap}
use Prim.Native.Nat.{ℕ, ◌<◌, ◌≤◌, ◌+◌, ◌*◌}
use native.Mathlib.Omega.{arith}
use lib.ListN.{length, get_or}
use Rattle.bags.specs.Label.{outgoing, first_label}
use Rattle.script.specs.Link.{from_at, kind_at}
use Rattle.words.proofs.Chains.{along-in}
use Rattle.links.proofs.Arrivals.{arrivals-fall}
use Rattle.board.specs.Work.{work, Swept}
use Rattle.board.proofs.Worklist.{swept-grid, swept-room}
use Rattle.strikes.specs.Strikes.{NamedGood}
use Rattle.words.proofs.Places.{card-room}
use Rattle.typing.proofs.Boards.{pairs-bound}
use Rattle.strikes.proofs.Names.{ready-table}
use Rattle.walks.proofs.Needs.{from-word, kind-word, kind-in}
use Rattle.strikes.proofs.Needing.{need-in-grid}
use Rattle.walks.proofs.Walks.{walk_start, walk-next, walk-done, arriving-swept}
use Rattle.strikes.proofs.strike.strike_sources.Goals as goal
use Rattle.strikes.proofs.strike.strike_sources.Goals.{After-from-from, In-Some}

-- the link that a turn looks at
link-in : (c : In-Some) → c.in-Some.i < get_or c.args.walk.now.script.now 1 0
link-in c = along-in c.loop-i.invariant.chain c.in-Some.ensures.steps.1

-- the card that it starts at and its kind, as they are read
from_is : (a : After-from-from) → a.from-from.result ≡ from_at a.args.walk.now.script.now a.in-Some.i
from_is a =
    a.from-from.ensures ∙ from-word a.args.walk.now.script.now a.in-Some.i

kind-is : (a : After-from-from) → get_or a.args.walk.now.script.now (3 + 3 * a.in-Some.i) 0
    ≡ kind_at a.args.walk.now.script.now a.in-Some.i
kind-is a = kind-word a.args.walk.now.script.now a.in-Some.i

-- all pairs of the card are on the board
card-pairs : (a : After-from-from) → a.from-from.result * a.args.walk.now.shapes + a.args.walk.now.shapes ≤ length
    a.args.grid.now
card-pairs a =
    let cards = get_or a.args.walk.now.script.now 0 0 in
    let is-card = a.requires.need.ready.near-in outgoing a.in-Some.i (link-in (goal.at.After-from-from
    a).In-Some) in
    omega (
      arith,
      a.requires.need.full,
      card-room cards a.args.walk.now.shapes a.from-from.result
          (subst (λ (x : ℕ). x < cards) (sym (from_is a)) is-card),
    )

pub new-i-items-requires : goal.new-i-items-requires
new-i-items-requires c = arrivals-fall _ c.requires.arrivals

pub loop-i-init : goal.loop-i-init
loop-i-init c =
    rw (c.into_iter-i-iterator.ensures.into_iter_gives, c.new-i-items.ensures.at, c.new-i-items.ensures.next)
    (walk_start c.requires.arrivals.chained (omega (arith, c.requires.arrivals.cards-in)))

pub strike_named-requires : goal.strike_named-requires
strike_named-requires c =
    let ready = c.requires.need.ready in
    let same = swept-grid c.loop-i.invariant.swept in
    record {
      table = ready-table ready;
      places = c.requires.need.places.index-of;
      half = omega (arith, c.requires.need.places.half);
      kind-in = omega (
        arith,
        kind-is (goal.at.strike_named-requires c).After-from-from,
        kind-in ready
            c.in-Some.i (link-in (goal.at.strike_named-requires c).In-Some),
      );
      shape-in = omega (arith, c.requires.need.shape-in, ready.few-shapes);
      few-places = omega (arith, same, c.requires.need.full, pairs-bound ready);
      pairs = omega (arith, card-pairs (goal.at.strike_named-requires c).After-from-from, same);
      room = swept-room c.loop-i.invariant.swept (λ p g. omega (
        arith,
        need-in-grid ready outgoing c.args.u.0 g.number p g.below g.good,
        c.requires.need.full,
      ))
          c.requires.need.room;
    }

pub loop-i-preserved : goal.loop-i-preserved
loop-i-preserved c =
    let w = work c.loop-i.grid c.loop-i.queue in
    let v = work c.strike_named.new.grid c.strike_named.new.queue in
    walk-next c.loop-i.invariant c.in-Some.ensures.steps.1
    (subst₂ (λ (k base : ℕ).
    Swept (NamedGood c.args.walk.now.names.now c.args.walk.now.shapes (first_label outgoing + k) base c.args.u.0) w v)
    (kind-is (goal.at.loop-i-preserved c).After-from-from) (ap (λ (x : ℕ). x * c.args.walk.now.shapes) (from_is
    (goal.at.loop-i-preserved c).After-from-from)) (rw c.requires.need.places.half at
    c.strike_named.ensures))

pub returns : goal.returns
returns c = arriving-swept (walk-done c.loop-i.invariant c.in-None.ensures.steps.0)

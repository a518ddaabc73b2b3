-- `strikes::strike_targets` strikes what needs a card's shape at the ends of the links from it. The invariant: by those
-- below i it is struck. Assumes nothing.
use mathlib.Core.Path.{subst, subst₂, ◌≡◌, sym, ◌∙◌, ap}
use Prim.Native.Nat.{ℕ, ◌<◌, ◌≤◌, ◌+◌, ◌*◌}
use native.Mathlib.Omega.{arith}
use lib.ListN.{length, get_or}
use Rattle.words.proofs.Places.{card-room}
use Rattle.bags.specs.Label.{incoming, first_label}
use Rattle.script.specs.Link.{kind_at, to_at}
use Rattle.board.specs.Work.{work, Swept}
use Rattle.board.proofs.Worklist.{swept-grid, swept-room}
use Rattle.typing.proofs.Boards.{pairs-bound}
use Rattle.walks.specs.Walks.{Leaving}
use Rattle.strikes.specs.Strikes.{NamedGood, NeedGood}
use Rattle.strikes.proofs.Names.{ready-table}
use Rattle.walks.proofs.Needs.{kind-word, to_word, kind-in}
use Rattle.strikes.proofs.Needing.{need-in-grid}
use Rattle.walks.proofs.Walks.{leaving-none, leaving-more}
use Rattle.strikes.proofs.strike.strike_targets.Goals as goal
use Rattle.strikes.proofs.strike.strike_targets.Goals.{After-from-to, In-loop-i}

-- the link that a turn looks at is one of the script's
link-in : (c : In-loop-i) → c.loop-i.i < get_or c.args.walk.now.script.now 1 0
link-in c = omega (arith, c.loop-i-test.true, c.requires.links-in)

-- its kind and the card that it leads to, as they are read
kind-is : (c : In-loop-i) → get_or c.args.walk.now.script.now (3 + 3 * c.loop-i.i) 0 ≡ kind_at
    c.args.walk.now.script.now c.loop-i.i
kind-is c = kind-word c.args.walk.now.script.now c.loop-i.i

to_is : (a : After-from-to) → a.from-to.result ≡ to_at a.args.walk.now.script.now a.loop-i.i
to_is a =
    a.from-to.ensures ∙ to_word a.args.walk.now.script.now a.loop-i.i

-- all pairs of that card are on the board
card-pairs : (a : After-from-to) → a.from-to.result * a.args.walk.now.shapes + a.args.walk.now.shapes ≤ length
    a.args.grid.now
card-pairs a =
    let cards = get_or a.args.walk.now.script.now 0 0 in
    let is-card = a.requires.need.ready.near-in incoming a.loop-i.i (link-in (goal.at.After-from-to a).In-loop-i) in
    omega (
      arith,
      a.requires.need.full,
      card-room cards a.args.walk.now.shapes a.from-to.result (subst (λ (x : ℕ). x < cards) (sym (to_is a)) is-card),
    )

pub loop-i-init : goal.loop-i-init
loop-i-init c = (omega arith, c.requires.rising, leaving-none)

pub strike_named-requires : goal.strike_named-requires
strike_named-requires c =
    let ready = c.requires.need.ready in
    let u = c.args.u.0 in
    let same = swept-grid c.loop-i.invariant.2 in
    record {
      table = ready-table ready;
      places = c.requires.need.places.index-of;
      half = omega (arith, c.requires.need.places.half);
      kind-in = omega (
        arith,
        kind-is (goal.at.strike_named-requires c).In-loop-i,
        kind-in ready c.loop-i.i
            (link-in (goal.at.strike_named-requires c).In-loop-i),
      );
      shape-in = omega (arith, c.requires.need.shape-in, ready.few-shapes);
      few-places = omega (arith, same, c.requires.need.full, pairs-bound ready);
      pairs = omega (arith, card-pairs (goal.at.strike_named-requires c).After-from-to, same);
      room = swept-room c.loop-i.invariant.2
          (λ p g. omega (
            arith,
            need-in-grid ready incoming u g.link p (omega (arith, g.high, c.loop-i.invariant.1, c.requires.links-in))
                g.good,
            c.requires.need.full,
          ))
          c.requires.need.room;
    }

pub loop-i-preserved : goal.loop-i-preserved
loop-i-preserved c =
    let w = work c.loop-i.grid c.loop-i.queue in
    let v = work c.strike_named.new.grid c.strike_named.new.queue in (
      omega arith,
      omega (arith, c.loop-i-test.true),
      leaving-more c.loop-i.invariant.0 c.loop-i.invariant.2
          (subst₂ (λ (k base : ℕ).
          Swept (NamedGood c.args.walk.now.names.now c.args.walk.now.shapes (first_label incoming + k) base
          c.args.u.0) w v)
          (kind-is (goal.at.loop-i-preserved c).In-loop-i) (ap (λ (x : ℕ). x * c.args.walk.now.shapes) (to_is
          (goal.at.loop-i-preserved c).After-from-to)) (rw c.requires.need.places.half at
          c.strike_named.ensures)),
    )

pub returns : goal.returns
returns c =
    let Good = NeedGood incoming c.args.walk.now.script.now c.args.walk.now.names.now c.args.walk.now.shapes
    c.args.u.0 in
    let before = work c.args.grid.now c.args.queue.now in
    let after = work c.loop-i.grid c.loop-i.queue in
    let all-links : c.loop-i.i ≡ c.args.hi = omega (arith, c.loop-i-test.false, c.loop-i.invariant.1) in
    subst (λ (hi : ℕ). Swept (Leaving Good c.args.lo hi) before after) all-links c.loop-i.invariant.2

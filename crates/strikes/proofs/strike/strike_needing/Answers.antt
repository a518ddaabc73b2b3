-- `strikes::strike_needing` strikes what needs a pair: by the links to its card, and by those from it. Assumes nothing.
use mathlib.Core.Path.{◌≡◌, ap, ◌∙◌}
use Prim.Native.Nat.{ℕ, ◌<◌, ◌+◌, ◌-◌, ◌*◌, ◌/◌, ◌%◌}
use native.Mathlib.Omega.{arith}
use lib.ListN.{length, get_or}
use Rattle.words.proofs.Places.{card-in, shape-in}
use Rattle.bags.specs.Label.{outgoing}
use Rattle.board.proofs.Worklist.{swept-grid, swept-room}
use Rattle.walks.specs.Walks.{Arriving}
use Rattle.strikes.specs.Strikes.{NeedGood}
use Rattle.walks.proofs.Cards.{shape-left}
use Rattle.strikes.proofs.Needing.{need-in-grid}
use Rattle.walks.proofs.Needs.{range-rising, range-in, arrivals-at}
use Rattle.strikes.proofs.Striking.{sources-same, targets-same, struck-both, struck-sources}
use Rattle.strikes.proofs.strike.strike_needing.Goals as goal
use Rattle.strikes.proofs.strike.strike_needing.Goals.{After-from-hi, Start}

-- the pair's card and shape are the sheet's
card-is : (s : Start) → s.args.q / s.args.walk.now.shapes < get_or s.args.walk.now.script.now 0 0
card-is s =
    card-in s.args.walk.now.shapes s.requires.by.ready.one-shape (get_or s.args.walk.now.script.now 0 0) s.args.q
    (omega (arith, s.requires.on-board, s.requires.full))

shape_is : (s : Start) → s.args.q % s.args.walk.now.shapes < s.args.walk.now.shapes
shape_is s = shape-in s.args.walk.now.shapes s.requires.by.ready.one-shape s.args.q

-- the card that is given is its card, and what is left of the place its shape
given-in : (s : Start) → s.args.m < get_or s.args.walk.now.script.now 0 0
given-in s = omega (arith, card-is s, s.requires.card)

left_is : (s : Start) → s.args.q - s.args.m * s.args.walk.now.shapes ≡ s.args.q % s.args.walk.now.shapes
left_is s = shape-left s.args.walk.now.shapes s.args.q s.requires.by.ready.one-shape s.requires.card

-- where the card's links start and end
low : (h : After-from-hi) → h.from-lo.result ≡ get_or h.args.walk.now.starts.now (h.args.q / h.args.walk.now.shapes) 0
low h =
    h.from-lo.ensures ∙ ap (λ (x : ℕ). get_or h.args.walk.now.starts.now x 0) h.requires.card

high : (h : After-from-hi) → h.from-hi.result ≡ get_or h.args.walk.now.starts.now
    (h.args.q / h.args.walk.now.shapes + 1) 0
high h =
    h.from-hi.ensures ∙ ap (λ (x : ℕ). get_or h.args.walk.now.starts.now (x + 1) 0) h.requires.card

-- what is struck by the links to the card is on the board
sources-in : (s : Start) (p : ℕ) → Arriving s.args.walk.now.script.now s.args.m
    (NeedGood outgoing s.args.walk.now.script.now s.args.walk.now.names.now s.args.walk.now.shapes
    (s.args.q - s.args.m * s.args.walk.now.shapes)) p
    → p < length s.args.grid.now
sources-in s p g = omega (
  arith,
  need-in-grid s.requires.by.ready outgoing (s.args.q - s.args.m * s.args.walk.now.shapes) g.link p g.below
      g.good,
  s.requires.full,
)

pub strike_sources-requires : goal.strike_sources-requires
strike_sources-requires c =
    record {
      need = record {
        ready = c.requires.by.ready;
        places = c.requires.by.places.outward;
        shape-in = omega (
          arith,
          left_is (goal.at.strike_sources-requires c).Start,
          shape_is
              (goal.at.strike_sources-requires c).Start,
        );
        full = c.requires.full;
        room = c.requires.room;
      };
      arrivals = arrivals-at c.requires.by.arriving (given-in (goal.at.strike_sources-requires c).Start);
    }

pub strike_targets-requires : goal.strike_targets-requires
strike_targets-requires c =
    let by = c.requires.by in
    let struck = c.strike_sources.ensures in
    record {
      need = record {
        ready = by.ready;
        places = rw c.in-Some.is at by.places.inward;
        shape-in = omega (
          arith,
          left_is (goal.at.strike_targets-requires c).Start,
          shape_is
              (goal.at.strike_targets-requires c).Start,
        );
        full = swept-grid struck ∙ c.requires.full;
        room = swept-room struck (sources-in (goal.at.strike_targets-requires c).Start) c.requires.room;
      };
      rising = range-rising by.leaving (card-is (goal.at.strike_targets-requires c).Start) (low
          (goal.at.strike_targets-requires c).After-from-hi) (high (goal.at.strike_targets-requires c).After-from-hi);
      links-in = range-in by.leaving (card-is (goal.at.strike_targets-requires c).Start) (low
          (goal.at.strike_targets-requires c).After-from-hi) (high (goal.at.strike_targets-requires c).After-from-hi);
    }

pub returns-in-Some : goal.returns-in-Some
returns-in-Some c =
    let ready = c.requires.by.ready in
    let st = c.requires.by.leaving in
    struck-both ready c.args.q st (card-is (goal.at.returns-in-Some c).Start) (low (goal.at.returns-in-Some
    c).After-from-hi) (high (goal.at.returns-in-Some c).After-from-hi)
    (sources-same ready c.args.q c.requires.card (left_is (goal.at.returns-in-Some c).Start)
    c.strike_sources.ensures)
    (targets-same ready c.args.q st (card-is (goal.at.returns-in-Some c).Start) (low (goal.at.returns-in-Some
    c).After-from-hi) (high (goal.at.returns-in-Some c).After-from-hi) (left_is (goal.at.returns-in-Some c).Start)
    c.strike_targets.ensures)

pub returns-in_default : goal.returns-in_default
returns-in_default c =
    struck-sources c.requires.by.ready c.args.q (rw c.in_default.is at c.requires.by.places.inward)
    (sources-same c.requires.by.ready c.args.q c.requires.card
    (left_is (goal.at.returns-in_default c).Start) c.strike_sources.ensures)

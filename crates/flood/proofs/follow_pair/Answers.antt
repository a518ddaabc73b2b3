-- `flood::follow_pair` strikes what a pair needs: what the links from its card lead to, and what those to it lead back
-- to. Assumes nothing.
use mathlib.Core.Path.{◌≡◌, ap, ◌∙◌}
use Prim.Native.Nat.{ℕ, ◌<◌, ◌≤◌, ◌+◌, ◌*◌, ◌-◌, ◌/◌, ◌%◌}
use native.Mathlib.Omega.{arith}
use lib.ListN.{length, get_or, take, drop}
use Rattle.words.specs.Limits.{max_kinds, max_labels}
use Rattle.words.proofs.Places.{card-in, shape-in}
use Rattle.bags.specs.Label.{outgoing, incoming}
use Rattle.board.proofs.Worklist.{swept-grid, swept-room}
use Rattle.walks.specs.Walks.{Leaving}
use Rattle.walks.specs.Entries.{LedGood}
use Rattle.walks.proofs.Cards.{shape-left}
use Rattle.walks.proofs.Walks.{arriving-same}
use Rattle.walks.proofs.Needs.{Half, half-row, row-asked, range-rising, range-in, arrivals-at}
use Rattle.walks.proofs.Following.{followed-out, followed-both}
use Rattle.flood.proofs.follow_pair.Goals as goal
use Rattle.flood.proofs.follow_pair.Goals.{After-follow_leaving, After-from-hi, Start}

-- the pair is one of the sheet, so its card and shape are the sheet's, and the shape's row is in the table
pair_is : (s : Start) → s.args.q < get_or s.args.walk.now.script.now 0 0 * s.args.walk.now.shapes
pair_is s = omega (arith, s.requires.on-board, s.requires.full)

card-is : (s : Start) → s.args.q / s.args.walk.now.shapes < get_or s.args.walk.now.script.now 0 0
card-is s =
    card-in s.args.walk.now.shapes s.requires.links.ready.one-shape (get_or s.args.walk.now.script.now 0 0) s.args.q
    (pair_is s)

shape_is : (s : Start) → s.args.q % s.args.walk.now.shapes < s.args.walk.now.shapes
shape_is s = shape-in s.args.walk.now.shapes s.requires.links.ready.one-shape s.args.q

-- the card that is given is its card, and what is left of the place its shape
left_is : (s : Start) → s.args.q - s.args.n * s.args.walk.now.shapes ≡ s.args.q % s.args.walk.now.shapes
left_is s = shape-left s.args.walk.now.shapes s.args.q s.requires.links.ready.one-shape s.requires.card

given-in : (s : Start) → s.args.n < get_or s.args.walk.now.script.now 0 0
given-in s = omega (arith, card-is s, s.requires.card)

base-is : (s : Start)
    → (s.args.q - s.args.n * s.args.walk.now.shapes) * max_labels ≡ s.args.q % s.args.walk.now.shapes * max_labels
base-is s = ap (λ (x : ℕ). x * max_labels) (left_is s)

row_in : (s : Start) → s.args.q % s.args.walk.now.shapes * max_labels + max_labels ≤ length s.args.walk.now.names.now
row_in s = omega (arith, shape_is s, s.requires.links.ready.table)

-- where the card's links start and end
low : (h : After-from-hi) → h.from-lo.result ≡ get_or h.args.walk.now.starts.now (h.args.q / h.args.walk.now.shapes) 0
low h = h.from-lo.ensures ∙ ap (λ (x : ℕ). get_or h.args.walk.now.starts.now x 0) h.requires.card

high : (h : After-from-hi) → h.from-hi.result ≡ get_or h.args.walk.now.starts.now
    (h.args.q / h.args.walk.now.shapes + 1) 0
high h = h.from-hi.ensures ∙ ap (λ (x : ℕ). get_or h.args.walk.now.starts.now (x + 1) 0) h.requires.card

-- the two halves of the row
out-half : (s : Start) (base : ℕ) → base ≡ s.args.q % s.args.walk.now.shapes * max_labels
    → Half s.args.walk.now.names.now (s.args.q % s.args.walk.now.shapes) outgoing
    (take (base + max_kinds - base) (drop base s.args.walk.now.names.now))
out-half s base e =
    half-row s.args.walk.now.names.now (s.args.q % s.args.walk.now.shapes) outgoing base (base + max_kinds - base)
    (omega arith) (omega arith) (omega (arith, row_in s))

back-half : (s : Start) (base : ℕ) → base ≡ s.args.q % s.args.walk.now.shapes * max_labels + max_kinds
    → Half s.args.walk.now.names.now (s.args.q % s.args.walk.now.shapes) incoming
    (take (base + max_kinds - base) (drop base s.args.walk.now.names.now))
back-half s base e =
    half-row s.args.walk.now.names.now (s.args.q % s.args.walk.now.shapes) incoming base (base + max_kinds - base)
    (omega arith) (omega arith) (omega (arith, row_in s))

-- what the links from the card lead to is on the board
out-in : (a : After-follow_leaving) → let base = (a.args.q - a.args.n * a.args.walk.now.shapes) * max_labels in
    let row = take (base + max_kinds - base) (drop base a.args.walk.now.names.now) in
    (p : ℕ) → Leaving (LedGood outgoing a.args.walk.now.script.now row a.args.walk.now.shapes)
    a.from-lo.result a.from-hi.result p → p < length a.args.grid.now
out-in a p g =
    let links = a.requires.links in
    (row-asked links.ready (shape_is (goal.at.After-follow_leaving a).Start) (out-half
    (goal.at.After-follow_leaving a).Start _ (base-is (goal.at.After-follow_leaving a).Start))
    a.requires.full).led g.link p
    (omega (
      arith,
      g.high,
      range-in links.leaving (card-is (goal.at.After-follow_leaving a).Start) (low
          (goal.at.After-follow_leaving a).After-from-hi) (high (goal.at.After-follow_leaving
          a).After-from-hi),
    )) g.good

pub follow_leaving-requires : goal.follow_leaving-requires
follow_leaving-requires c =
    let links = c.requires.links in
    record {
      row_in = row-asked links.ready (shape_is (goal.at.follow_leaving-requires c).Start) (out-half
          (goal.at.follow_leaving-requires c).Start _ (base-is (goal.at.follow_leaving-requires c).Start))
          c.requires.full;
      rising = range-rising links.leaving (card-is (goal.at.follow_leaving-requires c).Start) (low
          (goal.at.follow_leaving-requires c).After-from-hi) (high (goal.at.follow_leaving-requires
          c).After-from-hi);
      links-in = range-in links.leaving (card-is (goal.at.follow_leaving-requires c).Start) (low
          (goal.at.follow_leaving-requires c).After-from-hi) (high (goal.at.follow_leaving-requires
          c).After-from-hi);
      room = c.requires.room;
    }

pub follow_arriving-requires : goal.follow_arriving-requires
follow_arriving-requires c =
    let links = c.requires.links in
    let full = swept-grid c.follow_leaving.ensures ∙ c.requires.full in
    record {
      row_in = row-asked links.ready (shape_is (goal.at.follow_arriving-requires c).Start) (back-half
          (goal.at.follow_arriving-requires c).Start _ (ap (λ (x : ℕ). x + max_kinds) (base-is
          (goal.at.follow_arriving-requires c).Start))) full;
      arrivals = arrivals-at (links.arriving c.if-walk.true) (given-in (goal.at.follow_arriving-requires c).Start);
      room = swept-room c.follow_leaving.ensures (out-in (goal.at.follow_arriving-requires
          c).After-follow_leaving) c.requires.room;
    }

pub returns-then-walk : goal.returns-then-walk
returns-then-walk c =
    followed-both c.requires.links.ready c.requires.links.leaving (pair_is (goal.at.returns-then-walk c).Start)
    (low (goal.at.returns-then-walk c).After-from-hi) (high (goal.at.returns-then-walk c).After-from-hi)
    (out-half (goal.at.returns-then-walk c).Start _ (base-is (goal.at.returns-then-walk c).Start))
    (back-half (goal.at.returns-then-walk c).Start _ (ap (λ (x : ℕ). x + max_kinds) (base-is
    (goal.at.returns-then-walk c).Start))) c.follow_leaving.ensures
    (arriving-same c.requires.card c.follow_arriving.ensures)

pub returns-else-walk : goal.returns-else-walk
returns-else-walk c =
    followed-out c.requires.links.ready c.requires.links.leaving (pair_is (goal.at.returns-else-walk c).Start) (low
    (goal.at.returns-else-walk c).After-from-hi) (high (goal.at.returns-else-walk c).After-from-hi)
    (out-half (goal.at.returns-else-walk
    c).Start _ (base-is (goal.at.returns-else-walk c).Start))
    (c.requires.links.ways c.if-walk.false) c.follow_leaving.ensures

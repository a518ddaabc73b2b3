-- `flood::follow_leaving` strikes what the links from a card lead to. The invariant: that of those below i is.
-- Assumes nothing.
use mathlib.Core.Path.{subst, subst₂, ◌≡◌, ◌∙◌, ap}
use Prim.Native.Nat.{ℕ, ◌<◌, ◌≤◌, ◌*◌}
use native.Mathlib.Omega.{arith}
use lib.ListN.{length, get_or}
use Rattle.bags.specs.Label.{outgoing}
use Rattle.script.specs.Link.{kind_at, to_at}
use Rattle.board.specs.Work.{work, Swept}
use Rattle.board.proofs.Worklist.{swept-grid, swept-room}
use Rattle.walks.specs.Walks.{Leaving}
use Rattle.walks.specs.Entries.{EntryGood, LedGood}
use Rattle.walks.proofs.Needs.{kind-word, to_word}
use Rattle.walks.proofs.Walks.{leaving-none, leaving-more}
use Rattle.flood.proofs.follow_leaving.Goals as goal
use Rattle.flood.proofs.follow_leaving.Goals.{After-from-kind, After-from-to, At-loop-i, In-loop-i, Start}

-- what a link makes good
abbrev Good : Start → ℕ → ℕ → Type 0
Good s = LedGood outgoing s.args.walk.now.script.now s.args.row.now s.args.walk.now.shapes

-- the link that a turn looks at is one of the script's
link-in : (c : In-loop-i) → c.loop-i.i < get_or c.args.walk.now.script.now 1 0
link-in c = omega (arith, c.loop-i-test.true, c.requires.links-in)

-- its kind and the card that it leads to, as they are read
kind-is : (a : After-from-kind) → a.from-kind.result ≡ kind_at a.args.walk.now.script.now a.loop-i.i
kind-is a =
    a.from-kind.ensures ∙ kind-word a.args.walk.now.script.now a.loop-i.i

to_is : (a : After-from-to) → a.from-to.result ≡ to_at a.args.walk.now.script.now a.loop-i.i
to_is a =
    a.from-to.ensures ∙ to_word a.args.walk.now.script.now a.loop-i.i

-- so what the entry read names is what the link leads to
led : (a : After-from-to) → (p : ℕ) → EntryGood (get_or a.args.row.now a.from-kind.result 0) (a.from-to.result *
    a.args.walk.now.shapes) p
    → Good (goal.at.After-from-to a).Start a.loop-i.i p
led a p g =
    subst₂ (λ (k base : ℕ). EntryGood (get_or a.args.row.now k 0) base p) (kind-is (goal.at.After-from-to
    a).After-from-kind)
    (ap (λ (x : ℕ). x * a.args.walk.now.shapes) (to_is a)) g

-- what links below hi make good is on the board
good-in : (l : At-loop-i) → (i : ℕ) → i ≤ l.args.hi
    → (p : ℕ) → Leaving (Good (goal.at.At-loop-i l).Start) l.args.lo i p → p < length l.args.grid.now
good-in l i h p g =
    l.requires.row_in.led g.link p (omega (arith, g.high, l.requires.links-in)) g.good

pub loop-i-init : goal.loop-i-init
loop-i-init c = (omega arith, c.requires.rising, leaving-none)

pub bounds-row-kind : goal.bounds-row-kind
bounds-row-kind c =
    omega (
      arith,
      kind-is (goal.at.bounds-row-kind c).After-from-kind,
      c.requires.row_in.kinds c.loop-i.i (link-in
          (goal.at.bounds-row-kind c).In-loop-i),
    )

pub overflow_mul-to : goal.overflow_mul-to
overflow_mul-to c =
    let base = c.requires.row_in.cards c.loop-i.i (link-in (goal.at.overflow_mul-to c).In-loop-i) in
    omega (
      arith,
      ap (λ (x : ℕ). x * c.args.walk.now.shapes) (to_is (goal.at.overflow_mul-to c).After-from-to),
      base,
      c.requires.row_in.few-places,
    )

pub strike_entry-requires : goal.strike_entry-requires
strike_entry-requires c =
    let so_far = c.loop-i.invariant.2 in
    let row = c.requires.row_in in
    record {
      few-places = omega (arith, swept-grid so_far, row.few-places);
      on-board = λ p g. omega (
        arith,
        row.led c.loop-i.i p (link-in (goal.at.strike_entry-requires
            c).In-loop-i) (led (goal.at.strike_entry-requires c).After-from-to p g),
        swept-grid so_far,
      );
      room = swept-room so_far (good-in (goal.at.strike_entry-requires c).At-loop-i c.loop-i.i
          c.loop-i.invariant.1) c.requires.room;
    }

pub loop-i-preserved : goal.loop-i-preserved
loop-i-preserved c =
    let w = work c.loop-i.grid c.loop-i.queue in
    let v = work c.strike_entry.new.grid c.strike_entry.new.queue in (
      omega arith,
      omega (arith, c.loop-i-test.true),
      leaving-more c.loop-i.invariant.0 c.loop-i.invariant.2
          (subst₂ (λ (k base : ℕ). Swept (EntryGood (get_or c.args.row.now k 0) base) w v) (kind-is
          (goal.at.loop-i-preserved c).After-from-kind)
          (ap (λ (x : ℕ). x * c.args.walk.now.shapes) (to_is (goal.at.loop-i-preserved c).After-from-to))
          c.strike_entry.ensures),
    )

pub returns : goal.returns
returns c =
    let before = work c.args.grid.now c.args.queue.now in
    let after = work c.loop-i.grid c.loop-i.queue in
    let all-links : c.loop-i.i ≡ c.args.hi = omega arith in
    subst (λ (hi : ℕ). Swept (Leaving (Good (goal.at.returns c).Start) c.args.lo hi) before after) all-links
    c.loop-i.invariant.2

-- `flood::follow_arriving` walks the chain of the links to a card, and strikes what they lead back to.
-- Assumes nothing.
use mathlib.Core.Path.{subst₂, ◌≡◌, ◌∙◌, ap}
use Prim.Native.Nat.{ℕ, ◌<◌, ◌*◌}
use native.Mathlib.Omega.{arith}
use lib.ListN.{get_or}
use Rattle.bags.specs.Label.{incoming}
use Rattle.script.specs.Link.{from_at, kind_at}
use Rattle.words.proofs.Chains.{along-in}
use Rattle.links.proofs.Arrivals.{arrivals-fall}
use Rattle.board.specs.Work.{work, Swept}
use Rattle.board.proofs.Worklist.{swept-grid, swept-room}
use Rattle.walks.specs.Entries.{EntryGood, LedGood}
use Rattle.walks.proofs.Needs.{from-word, kind-word}
use Rattle.walks.proofs.Walks.{walk_start, walk-next, walk-done, arriving-swept}
use Rattle.flood.proofs.follow_arriving.Goals as goal
use Rattle.flood.proofs.follow_arriving.Goals.{After-from-from, After-from-kind, In-Some}
use Rattle.flood.proofs.follow_arriving.Goals.{Start}

-- what a link makes good
abbrev Good : Start → ℕ → ℕ → Type 0
Good s = LedGood incoming s.args.walk.now.script.now s.args.row.now s.args.walk.now.shapes

-- the link that a turn looks at, and its words
link-in : (c : In-Some) → c.in-Some.i < get_or c.args.walk.now.script.now 1 0
link-in c = along-in c.loop-i.invariant.chain c.in-Some.ensures.steps.1

-- the card that it starts at and its kind, as they are read
from_is : (a : After-from-from) → a.from-from.result ≡ from_at a.args.walk.now.script.now a.in-Some.i
from_is a =
    a.from-from.ensures ∙ from-word a.args.walk.now.script.now a.in-Some.i

kind-is : (a : After-from-kind) → a.from-kind.result ≡ kind_at a.args.walk.now.script.now a.in-Some.i
kind-is a =
    a.from-kind.ensures ∙ kind-word a.args.walk.now.script.now a.in-Some.i

-- so what the entry read names is what the link leads back to
led : (a : After-from-kind) → (p : ℕ) → EntryGood (get_or a.args.row.now a.from-kind.result 0) (a.from-from.result
    * a.args.walk.now.shapes) p
    → Good (goal.at.After-from-kind a).Start a.in-Some.i p
led a p g =
    subst₂ (λ (k base : ℕ). EntryGood (get_or a.args.row.now k 0) base p) (kind-is a)
    (ap (λ (x : ℕ). x * a.args.walk.now.shapes) (from_is (goal.at.After-from-kind a).After-from-from)) g

pub new-i-items-requires : goal.new-i-items-requires
new-i-items-requires c = arrivals-fall _ c.requires.arrivals

pub loop-i-init : goal.loop-i-init
loop-i-init c =
    rw (c.into_iter-i-iterator.ensures.into_iter_gives, c.new-i-items.ensures.at, c.new-i-items.ensures.next)
    (walk_start c.requires.arrivals.chained (omega (arith, c.requires.arrivals.cards-in)))

pub bounds-row-kind : goal.bounds-row-kind
bounds-row-kind c =
    omega (
      arith,
      kind-is (goal.at.bounds-row-kind c).After-from-kind,
      c.requires.row_in.kinds c.in-Some.i
          (link-in (goal.at.bounds-row-kind c).In-Some),
    )

pub overflow_mul-from : goal.overflow_mul-from
overflow_mul-from c =
    let base = c.requires.row_in.cards c.in-Some.i (link-in (goal.at.overflow_mul-from c).In-Some) in
    omega (
      arith,
      ap (λ (x : ℕ). x * c.args.walk.now.shapes) (from_is (goal.at.overflow_mul-from c).After-from-from),
      base,
      c.requires.row_in.few-places,
    )

pub strike_entry-requires : goal.strike_entry-requires
strike_entry-requires c =
    let so_far = c.loop-i.invariant.swept in
    let row = c.requires.row_in in
    record {
      few-places = omega (arith, swept-grid so_far, row.few-places);
      on-board = λ p g. omega (
        arith,
        row.led c.in-Some.i p (link-in (goal.at.strike_entry-requires
            c).In-Some) (led (goal.at.strike_entry-requires c).After-from-kind p g),
        swept-grid so_far,
      );
      room = swept-room so_far (λ p g. row.led g.number p g.below g.good) c.requires.room;
    }

pub loop-i-preserved : goal.loop-i-preserved
loop-i-preserved c =
    let w = work c.loop-i.grid c.loop-i.queue in
    let v = work c.strike_entry.new.grid c.strike_entry.new.queue in
    walk-next c.loop-i.invariant c.in-Some.ensures.steps.1
    (subst₂ (λ (k base : ℕ). Swept (EntryGood (get_or c.args.row.now k 0) base) w v) (kind-is
    (goal.at.loop-i-preserved c).After-from-kind)
    (ap (λ (x : ℕ). x * c.args.walk.now.shapes) (from_is (goal.at.loop-i-preserved c).After-from-from))
    c.strike_entry.ensures)

pub returns : goal.returns
returns c = arriving-swept (walk-done c.loop-i.invariant c.in-None.ensures.steps.0)

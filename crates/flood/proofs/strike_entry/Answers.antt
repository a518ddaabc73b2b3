-- `flood::strike_entry` strikes the pair that an entry names. Assumes nothing.
use mathlib.Core.Path.{sym, subst}
use Prim.Native.Nat.{◌<◌, ◌+◌, ◌-◌}
use native.Mathlib.Omega.{arith}
use lib.ListN.{length}
use Rattle.board.specs.Work.{Work, work, Swept}
use Rattle.board.proofs.Worklist.{swept_none, swept_same}
use Rattle.walks.specs.Entries.{EntryGood}
use Rattle.walks.proofs.Entries.{none_named, one-named, only-named}
use Rattle.walks.proofs.Walks.{swept-strike}
use Rattle.flood.proofs.strike_entry.Goals as goal
use Rattle.flood.proofs.strike_entry.Goals.{Then-number-ne0}

-- the pair that is struck is on the board
place_in : (c : Then-number-ne0) → c.args.base + (c.from-number.result - 1) < length c.args.grid.now
place_in c =
    c.requires.on-board _ (one-named c.from-number.ensures c.if-number-ne0.true)

pub overflow_add-base : goal.overflow_add-base
overflow_add-base c =
    omega (arith, place_in (goal.at.overflow_add-base c).Then-number-ne0, c.requires.few-places)

pub strike_one-requires : goal.strike_one-requires
strike_one-requires c =
    record {
      few-places = c.requires.few-places;
      on-board = place_in (goal.at.strike_one-requires
          c).Then-number-ne0;
      room = c.requires.room;
    }

pub returns-else-number-ne0 : goal.returns-else-number-ne0
returns-else-number-ne0 c = swept_none (none_named c.from-number.ensures c.if-number-ne0.false)

pub returns-then-number-ne0 : goal.returns-then-number-ne0
returns-then-number-ne0 c =
    let is = c.from-number.ensures in
    let w = work c.args.grid.now c.args.queue.now in
    let p = c.args.base + (c.from-number.result - 1) in
    let Good = EntryGood c.args.entry c.args.base in
    subst (λ (v : Work). Swept Good w v) (sym c.strike_one.ensures)
    (swept_same (λ q at. subst Good (sym at) (one-named is c.if-number-ne0.true)) (only-named is
    c.if-number-ne0.true)
    (swept-strike w p (place_in (goal.at.returns-then-number-ne0 c).Then-number-ne0)))

-- `board::strike_one` strikes as `strike_one` does. Assumes nothing.
use mathlib.Core.Path.{sym}
use native.Mathlib.Omega.{arith}
use Rattle.board.specs.Work.{Work, work}
use Rattle.board.proofs.Grids.{on-yes, on-no}
use Rattle.board.proofs.Worklist.{strike-hit, strike-miss, room-hit}
use Rattle.board.proofs.queue.strike_one.Goals as goal
use Rattle.board.proofs.queue.strike_one.Goals.{Start}

-- the work at the function's entry
abbrev entered : Start → Work
entered s = work s.args.grid.now s.args.queue.now

pub push-requires : goal.push-requires
push-requires c =
    let stands = on-yes c.args.grid.now c.args.place c.if-grid-place-eq1.true in
    let room = room-hit (entered (goal.at.push-requires c).Start) c.args.place c.requires.room stands
    c.requires.on-board in (omega (arith, room), omega (arith, c.requires.on-board, c.requires.few-places))

pub returns-then-grid-place-eq1 : goal.returns-then-grid-place-eq1
returns-then-grid-place-eq1 c =
    let before = entered (goal.at.returns-then-grid-place-eq1 c).Start in
    let stands = on-yes c.args.grid.now c.args.place c.if-grid-place-eq1.true in
    rw (c.push.ensures.places, c.push.ensures.len, c.push.ensures.lent) (sym (strike-hit before c.args.place stands))

pub returns-else-grid-place-eq1 : goal.returns-else-grid-place-eq1
returns-else-grid-place-eq1 c =
    sym (strike-miss (entered (goal.at.returns-else-grid-place-eq1 c).Start) c.args.place (on-no c.args.grid.now
    c.args.place c.if-grid-place-eq1.false))

-- `strikes::strike_named` walks the chain of a kind and a shape. Assumes nothing.
use mathlib.Core.Path.{subst, sym}
use Prim.Native.Nat.{◌<◌, ◌+◌, ◌*◌, ◌/◌}
use native.Mathlib.Omega.{arith}
use lib.ListN.{length}
use Rattle.words.specs.Limits.{max_kinds}
use Rattle.words.proofs.Chains.{chain-falls, along-in}
use Rattle.board.specs.Work.{Work, work, Swept}
use Rattle.board.proofs.Worklist.{swept-grid, swept-room}
use Rattle.words.proofs.Places.{card-in}
use Rattle.strikes.proofs.Names.{RowGood, row_in, named-exact}
use Rattle.walks.proofs.Walks.{swept-strike, walk_start, walk-next, walk-done}
use Rattle.strikes.proofs.strike.strike_named.Goals as goal
use Rattle.strikes.proofs.strike.strike_named.Goals.{After-name_key-key, In-Some}

-- the pair that a turn strikes is on the board
pair-in : (c : In-Some) → (c.args.card * c.args.walk.now.shapes) + c.in-Some.p / max_kinds < length
    c.args.grid.now
pair-in c =
    omega (
      arith,
      c.requires.pairs,
      card-in max_kinds (omega arith) c.args.walk.now.shapes c.in-Some.p
          (along-in c.loop-p.invariant.chain c.in-Some.ensures.steps.1),
    )

-- the key has a head
key_in : (c : After-name_key-key)
    → c.name_key-key.result < length c.args.index.now.first.now
key_in c =
    omega (arith, c.name_key-key.ensures, c.requires.places.keys, c.requires.kind-in, c.requires.shape-in)

pub new-p-items-requires : goal.new-p-items-requires
new-p-items-requires c =
    chain-falls c.requires.places.chained (key_in (goal.at.new-p-items-requires c).After-name_key-key)
    c.requires.places.places

pub loop-p-init : goal.loop-p-init
loop-p-init c =
    rw (c.into_iter-p-iterator.ensures.into_iter_gives, c.new-p-items.ensures.at, c.new-p-items.ensures.next)
    (walk_start c.requires.places.chained (key_in (goal.at.loop-p-init c).After-name_key-key))

pub strike_one-requires : goal.strike_one-requires
strike_one-requires c =
    let same = swept-grid c.loop-p.invariant.swept in
    record {
      few-places = omega (arith, same, c.requires.few-places);
      on-board = omega (arith, pair-in (goal.at.strike_one-requires c).In-Some, same);
      room = swept-room c.loop-p.invariant.swept (λ p g. row_in c.args.walk.now.shapes
          (c.args.card * c.args.walk.now.shapes) c.requires.pairs g)
          c.requires.room;
    }

pub loop-p-preserved : goal.loop-p-preserved
loop-p-preserved c =
    let w = work c.loop-p.grid c.loop-p.queue in
    let p = (c.args.card * c.args.walk.now.shapes) + c.in-Some.p / max_kinds in
    walk-next c.loop-p.invariant c.in-Some.ensures.steps.1
    (subst (λ (v : Work). Swept (RowGood (c.args.card * c.args.walk.now.shapes) c.in-Some.p) w v)
    (sym c.strike_one.ensures)
    (swept-strike w p (omega (
      arith,
      pair-in (goal.at.loop-p-preserved c).In-Some,
      swept-grid
          c.loop-p.invariant.swept,
    ))))

pub returns : goal.returns
returns c =
    named-exact c.args.walk.now.names.now c.args.index.now.start c.args.walk.now.shapes c.args.kind.0
    (c.args.card * c.args.walk.now.shapes)
    c.args.u.0 c.requires.table c.requires.half c.requires.kind-in c.requires.shape-in
    c.name_key-key.ensures
    (walk-done c.loop-p.invariant c.in-None.ensures.steps.0)

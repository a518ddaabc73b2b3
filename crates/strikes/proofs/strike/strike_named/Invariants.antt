-- `strikes::strike_named` walks the chain of a kind and a shape. Assumes nothing.
use Prim.Native.Nat.{◌*◌}
use Rattle.words.specs.Limits.{max_kinds}
use Rattle.board.specs.Work.{work}
use Rattle.strikes.specs.Indexes.{entry_key}
use Rattle.strikes.proofs.Names.{RowGood}
use Rattle.walks.proofs.Walks.{Walking}
use Rattle.strikes.proofs.strike.strike_named.Given as goal

abbrev pub invariant-loop-p : goal.invariant-loop-p
invariant-loop-p l =
    Walking (entry_key l.walk.names.now l.index.start) l.key (l.walk.shapes * max_kinds) (RowGood l.base)
    (work l.initial.grid l.initial.queue) (work l.grid l.queue) l.p-iterator.at l.p-iterator.next.now

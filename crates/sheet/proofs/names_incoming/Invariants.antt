-- `sheet::names_incoming` meets its contract. The invariant: the rows before t have no incoming entry. Assumes nothing.
use Rattle.sheet.specs.Opened.{OnlyOutgoing}
use Rattle.sheet.proofs.names_incoming.Given as goal

abbrev pub invariant-loop-t : goal.invariant-loop-t
invariant-loop-t l = OnlyOutgoing l.names l.t l.kinds

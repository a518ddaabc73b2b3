-- `rounds::strike_all` indexes the names, lists the pairs that are off and strikes the rounds. Assumes nothing.
use native.Mathlib.Omega.{arith}
use Rattle.strikes.proofs.Names.{ready-table}
use Rattle.rounds.proofs.strike_all.Goals as goal

pub new-outgoing-requires : goal.new-outgoing-requires
new-outgoing-requires c = (ready-table c.requires.links.ready, omega arith)

pub new-incoming-requires : goal.new-incoming-requires
new-incoming-requires c = (ready-table c.requires.links.ready, omega arith)

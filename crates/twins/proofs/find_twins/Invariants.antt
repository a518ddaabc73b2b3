-- `twins::find_twins` meets its contract. The invariant: the cards before the loop's have their twins, and the table
-- of marks has no other card. Assumes nothing.
use Rattle.twins.proofs.Twins.{TwinsTo}
use Rattle.twins.proofs.find_twins.Given as goal

abbrev pub invariant-loop-n : goal.invariant-loop-n
invariant-loop-n l = TwinsTo l.script l.starts l.cards l.initial.twins l.twins l.last l.n

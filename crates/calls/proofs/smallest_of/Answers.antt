-- `calls::smallest_of` chains the links to each card where some shape names an incoming kind. Assumes nothing.
use Rattle.words.proofs.Bools.{never_both}
use Rattle.pairs.proofs.Links.{arrivals-asked}
use Rattle.calls.proofs.smallest_of.Goals as goal

pub chain_arrivals-requires : goal.chain_arrivals-requires
chain_arrivals-requires c = arrivals-asked c.requires.lent.booked.known

pub smallest_by-requires-2 : goal.smallest_by-requires-2
smallest_by-requires-2 c =
    record { grids = c.requires; arriving = λ some. absurd (never_both some c.if-sheet.false) }

-- `rounds::source_card` finds the card of a pair, by a guess or by the reciprocal. Assumes nothing.
use Rattle.rounds.proofs.source_card.Goals as goal

pub returns : goal.returns
returns c =
    c.scaled_card.ensures c.args.walk.now.shapes c.requires.by

-- `flat::meet::meet_card` meets its contract: a law of proofs/Along for each way out.
-- Assumes nothing.
use Rattle.flat.proofs.Along.{arriving-asked, card-unnamed, card-met}
use Rattle.flat.proofs.meet.meet_card.Goals as goal

pub returns-in_err-leaving : goal.returns-in_err-leaving
returns-in_err-leaving c p kinds surveyed under =
    rw c.from_residual.ensures (card-unnamed c.requires c.args.is_open _ p kinds surveyed under
    c.in_err-leaving.ensures)

pub meet_arriving-both-requires : goal.meet_arriving-both-requires
meet_arriving-both-requires c = arriving-asked c.requires _ c.in_ok-leaving.ensures

pub returns : goal.returns
returns c p kinds surveyed under =
    card-met c.requires c.args.is_open _ p kinds surveyed under _ _ _ c.in_ok-leaving.ensures
    c.meet_arriving-both.ensures c.all_met.ensures

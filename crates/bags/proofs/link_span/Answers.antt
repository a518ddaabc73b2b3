-- `bags::link_span` meets its contract: what both rooms are small for their meeting is. Assumes nothing.
use Rattle.bags.proofs.link_span.Goals as goal

pub returns-clause-small : goal.returns-clause-small
returns-clause-small c = c.meet_span.ensures.small _ c.low_room.ensures.small c.high_room.ensures.small

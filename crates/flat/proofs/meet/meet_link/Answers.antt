-- `flat::meet::meet_link` meets its contract.
-- Assumes nothing.
use native.Mathlib.Omega.{arith}
use Rattle.flat.specs.Meeting.{link_at}
use Rattle.flat.proofs.MeetingCards.{link-some}
use Rattle.flat.proofs.meet.meet_link.Goals as goal

pub returns : goal.returns
unfolding link_at
returns c =
    let one = c.link_span.ensures in
    let both = c.meet_span.ensures in
    link-some _ _ _ _ _ _ one.view both.view (omega arith)

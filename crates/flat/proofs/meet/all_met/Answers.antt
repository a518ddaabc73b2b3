-- `flat::meet::all_met` meets its contract.
-- Assumes nothing.
use native.Mathlib.Omega.{arith}
use Rattle.flat.proofs.MeetingCards.{one-missing}
use Rattle.flat.proofs.meet.all_met.Goals as goal

pub returns-then-met-needed : goal.returns-then-met-needed
returns-then-met-needed c =
    let both = c.meet_span.ensures in
    one-missing _ _ _ _ both.view (omega arith)

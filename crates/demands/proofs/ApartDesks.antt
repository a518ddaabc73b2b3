-- What specs/ApartDesks promises of the two desks holds.
--   apart-demand
-- Assumes nothing.
use Rattle.typing.proofs.DesksApart.{desks-apart, desks-apart-both, desks-apart-set, desks-apart-both-set}
use Rattle.demands.specs.ApartDesks.{ApartDemand}
use Rattle.demands.proofs.Formed.{listed-taken}

pub apart-demand : ApartDemand
apart-demand template script s f desk ours one other formed same-formed =
    let one-taken = (listed-taken template script one s).1 (f, formed) in
    let other-taken = (listed-taken template script other s).1 (f, same-formed) in (
      λ words. record {
        smallest = desks-apart template script desk ours one other s one-taken other-taken words;
        both = desks-apart-both template script desk ours one other s one-taken other-taken words;
      },
      λ same. record {
        smallest = desks-apart-set template script desk ours one other s one-taken other-taken same;
        both = desks-apart-both-set template script desk ours one other s one-taken other-taken same;
      },
    )

-- `searches::strike` leaves the largest typing of each sheet whose pairs that fit it was lent. Assumes nothing.
use mathlib.Core.Path.{◌∙◌}
use native.Mathlib.Omega.{arith}
use Rattle.lent.proofs.KnownSheet.{read, few-pairs}
use Rattle.pairs.proofs.Links.{links-ready, links-arriving, among}
use Rattle.pairs.proofs.Tested.{counted-as, full-words}
use Rattle.searches.proofs.Striking.{struck-found}
use Rattle.searches.proofs.strike.Goals as goal

pub strike_all-tally-requires : goal.strike_all-tally-requires
strike_all-tally-requires c =
    let t = c.requires.some.tested in
    rw c.walk_of-walk.ensures (record {
      links = links-ready t.known c.requires.some.links;
      arriving = links-arriving t.known c.requires.arriving;
      lent = record {
        full = full-words t;
        room = omega (arith, t.fits.full, few-pairs t.known);
      };
    })

pub count_bare-bare-requires : goal.count_bare-bare-requires
count_bare-bare-requires c =
    let t = c.requires.some.tested in
    let accepted = read t.known in
    record {
      among = among t.known;
      full = c.strike_all-tally.ensures.size ∙ t.fits.full;
      few-cards = accepted.links.cards-bound;
      few-shapes = accepted.shapes.shapes-high;
    }

pub returns : goal.returns
returns c s t =
    struck-found t (rw c.walk_of-walk.ensures at c.strike_all-tally.ensures) (c.count_bare-bare.ensures s (counted-as
    t))

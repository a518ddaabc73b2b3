-- `pairs::test_pairs` finds where the links from each card start, and tests each pair of a sheet that is read.
-- Assumes nothing.
use native.Mathlib.Omega.{arith}
use Rattle.fits.specs.Fitting.{LinksFound}
use Rattle.lent.proofs.KnownSheet.{read}
use Rattle.pairs.proofs.Tested.{pairs-tested}
use Rattle.pairs.proofs.test_pairs.Goals as goal
use Rattle.pairs.proofs.test_pairs.Goals.{After-link_starts}

pub link_starts-requires : goal.link_starts-requires
link_starts-requires c =
    let links = (read c.requires.sized.known).links in
    record { ascending = rw c.from.ensures links.ascending; room = omega (arith, links.cards-bound) }

-- where the links stand
standing : (a : After-link_starts) → let sheet = a.args.sheet.now in let chains = a.args.chains.now in
    LinksFound sheet.script.now sheet.extent a.link_starts.new.starts chains.first.now chains.next.now
standing a = record {
  leaving = rw (← a.from-2.ensures, ← a.from.ensures) a.link_starts.ensures;
  arriving = a.requires.arriving;
}

pub fit_grid-requires : goal.fit_grid-requires
fit_grid-requires c =
    let sized = c.requires.sized in
    record {
      known = sized.known;
      standing = standing (goal.at.fit_grid-requires c).After-link_starts;
      size = sized.size;
    }

pub returns : goal.returns
returns c =
    pairs-tested c.requires.sized.known (standing (goal.at.returns c).After-link_starts) c.fit_grid.ensures

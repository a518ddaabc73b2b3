-- What the call for the smallest typing asks for on a sheet and bookings that are read; no part of a promise.
-- SmallestLent   two grids of the sheet's size, and where the links to each card stand
-- Assumes nothing.
use Rattle.std.specs.Prelude.{ℕ, List}
use Rattle.links.specs.declared.index.Chains.{Chains}
use Rattle.fits.specs.Fitting.{NamedArrivals}
use Rattle.lent.specs.declared.ListedSheet.{ListedSheet}
use Rattle.lent.specs.Readings.{TwoGrids}

-- Two grids of a sheet's size, and where the links to each card stand, if some shape names an incoming kind.
pub record SmallestLent (listed : ListedSheet) (chains : Chains) (desk : ℕ) (grid fitting : List ℕ) : Type 0 where
  pub grids : TwoGrids listed desk grid fitting
  pub arriving : NamedArrivals listed.sheet.script.now listed.sheet.extent chains.first.now chains.next.now

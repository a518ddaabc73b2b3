-- What judging a grid asks for; no part of a promise.
-- JudgeLent     a sheet and a booking list that are read, where the links to each card stand, and such a grid
-- JudgeAsked    the sheet's pairs tested, where its links stand, and a grid of zeros and ones
-- Assumes nothing.
use Rattle.std.specs.Prelude.{ℕ, ◌*◌, ◌≡◌, List, length}
use Rattle.words.specs.Reading.{accepted}
use Rattle.board.specs.Machine.{Marks}
use Rattle.links.specs.declared.index.CardLinks.{CardLinks}
use Rattle.links.specs.declared.index.Chains.{Chains}
use Rattle.bookings.specs.Bookings.{read_bookings}
use Rattle.fits.specs.Fitting.{NamedArrivals}
use Rattle.lent.specs.declared.ListedSheet.{ListedSheet}
use Rattle.lent.specs.Readings.{ListedFor}
use Rattle.pairs.specs.Pairs.{SomeTested}

-- A sheet, a desk of a booking list that is read, and a grid of zeros and ones of the sheet's size; where the links to
-- each card stand is known.
pub record JudgeLent (listed : ListedSheet) (chains : Chains) (desk : ℕ) (grid : List ℕ) : Type 0 where
  pub lent : ListedFor listed desk grid
  pub arriving : NamedArrivals listed.sheet.script.now listed.sheet.extent chains.first.now chains.next.now
  pub marks : Marks grid

-- Some sheet is tested, where its links stand and a booking list are known, and the grid has the sheet's size and is
-- one of zeros and ones.
pub record JudgeAsked (listed : ListedSheet) (links : CardLinks) (fitting grid : List ℕ) : Type 0 where
  pub some : SomeTested listed.sheet links.starts.now links.chains fitting
  pub list : read_bookings listed.sheet.extent.cards listed.sheet.extent.shapes listed.bookings.now
      ≡ accepted listed.count
  pub size : length grid ≡ listed.sheet.extent.cards * listed.sheet.extent.shapes
  pub marks : Marks grid

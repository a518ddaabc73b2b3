-- What the two searches on a sheet whose pairs are tested ask; no part of a promise.
-- StrikesAsked  what striking asks
-- SettleAsked   what settling the bookings asks
-- Assumes nothing.
use Rattle.std.specs.Prelude.{ℕ, ◌*◌, ◌≡◌, List, length}
use Rattle.words.specs.Reading.{accepted}
use Rattle.links.specs.Index.{ArrivalsOf}
use Rattle.links.specs.declared.index.CardLinks.{CardLinks}
use Rattle.sheet.specs.declared.ReadSheet.{ReadSheet}
use Rattle.bookings.specs.Bookings.{read_bookings}
use Rattle.lent.specs.declared.ListedSheet.{ListedSheet}
use Rattle.pairs.specs.Pairs.{SomeTested}

-- What striking asks: some sheet is tested, and where the links to each card stand, whatever shapes name.
pub record StrikesAsked (sheet : ReadSheet) (links : CardLinks) (fitting : List ℕ) : Type 0 where
  pub some : SomeTested sheet links.starts.now links.chains fitting
  pub arriving : ArrivalsOf sheet.script.now links.chains.first.now links.chains.next.now sheet.extent.cards
      sheet.extent.links

-- Some sheet is tested, where its links stand and a booking list are known, and the grid has the sheet's size.
pub record SettleAsked (listed : ListedSheet) (links : CardLinks) (fitting grid : List ℕ) : Type 0 where
  pub some : SomeTested listed.sheet links.starts.now links.chains fitting
  pub list : read_bookings listed.sheet.extent.cards listed.sheet.extent.shapes listed.bookings.now
      ≡ accepted listed.count
  pub size : length grid ≡ listed.sheet.extent.cards * listed.sheet.extent.shapes

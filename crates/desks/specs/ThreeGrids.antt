-- What the call for the typings of both desks asks for on a sheet and bookings that are read; no part of a promise.
-- ThreeGrids   a sheet and a booking list that are read, and three grids of the sheet's size
-- DesksAsked   what settling the bookings of both desks and striking asks
-- desks_of      what the searches say for both desks
-- Assumes nothing.
use Rattle.std.specs.Prelude.{ℕ, ◌*◌, ◌≡◌, List, length, Ok}
use Rattle.words.specs.Reading.{accepted}
use Rattle.links.specs.declared.index.CardLinks.{CardLinks}
use Rattle.bookings.specs.Bookings.{read_bookings}
use Rattle.typing.specs.declared.Desks.{Desks}
use Rattle.typing.specs.Answer.{DesksSaid, desks_said}
use Rattle.lent.specs.declared.ListedSheet.{ListedSheet}
use Rattle.lent.specs.Readings.{ListedKnown}
use Rattle.searches.specs.Searches.{StrikesAsked}

-- A sheet with a booking list, and three grids of its size.
pub record ThreeGrids (listed : ListedSheet) (radio television large : List ℕ) : Type 0 where
  pub booked : ListedKnown listed
  pub radio-size : length radio ≡ listed.sheet.extent.cards * listed.sheet.extent.shapes
  pub television-size : length television ≡ listed.sheet.extent.cards * listed.sheet.extent.shapes
  pub large-size : length large ≡ listed.sheet.extent.cards * listed.sheet.extent.shapes

-- Some sheet is tested, where its links stand, whatever shapes name, and a booking list are known, and two more grids
-- have the sheet's size.
pub record DesksAsked (listed : ListedSheet) (links : CardLinks) (radio television large : List ℕ) : Type 0 where
  pub strikes : StrikesAsked listed.sheet links large
  pub list : read_bookings listed.sheet.extent.cards listed.sheet.extent.shapes listed.bookings.now
      ≡ accepted listed.count
  pub radio-size : length radio ≡ listed.sheet.extent.cards * listed.sheet.extent.shapes
  pub television-size : length television ≡ listed.sheet.extent.cards * listed.sheet.extent.shapes

-- What is found of the typings of both desks says what the searches say.
abbrev pub desks_of : Desks → DesksSaid
desks_of r = desks_said (Ok r)

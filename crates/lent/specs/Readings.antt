-- What reading what a call is lent finds; no part of a promise.
-- BookedSheet   a sheet with its table of names and a booking list, all read; BookedAs: what reading them finds
-- ReadFor       these, for a desk and with a grid of the sheet's size; LentAs: what reading them finds
-- listed_as     a sheet and a list that are lent; ListedKnown, ListedFor: the same of them
-- TwoGrids      these, and another grid of the sheet's size
-- Assumes nothing.
use Rattle.std.specs.Prelude.{ℕ, ◌*◌, ◌≤◌, ◌≡◌, List, length, Result, Ok, Err}
use Rattle.std.specs.Borrow.{Bor}
use Rattle.words.specs.Reading.{accepted, turned_down}
use Rattle.words.specs.Refused.{number}
use Rattle.words.specs.declared.refusal.Refusal.{Refusal}
use Rattle.sheet.specs.Opened.{Known}
use Rattle.sheet.specs.declared.Extent.{Extent}
use Rattle.bookings.specs.Bookings.{read_bookings}
use Rattle.typing.specs.Calls.{listed_reading, smallest_reading}
use Rattle.lent.specs.declared.ListedSheet.{ListedSheet}

-- A sheet with its table of names, and a booking list of so many bookings for it.
pub record BookedSheet (template script names : List ℕ) (e : Extent) (bookings : List ℕ) (count : ℕ) : Type 0 where
  pub known : Known template script names e
  pub list : read_bookings e.cards e.shapes bookings ≡ accepted count

-- What reading template, script and bookings finds, in this order.
abbrev pub BookedAs : List ℕ → List ℕ → List ℕ → List ℕ → Result (Extent × ℕ) Refusal → Type 0
BookedAs template script names bookings (Ok (e, count)) = BookedSheet template script names e bookings count
BookedAs template script names bookings (Err r) =
    listed_reading template script bookings ≡ turned_down (number r.0) r.1

-- These, for a desk and with a grid of the sheet's size.
pub record ReadFor (template script names : List ℕ) (e : Extent) (bookings : List ℕ) (count desk : ℕ) (grid : List ℕ)
    : Type 0 where
  pub booked : BookedSheet template script names e bookings count
  pub ours : desk ≤ 1
  pub size : length grid ≡ e.cards * e.shapes

-- What reading template, script and bookings finds, and then the desk and the grid.
abbrev pub LentAs : List ℕ → List ℕ → List ℕ → List ℕ → ℕ → List ℕ → Result (Extent × ℕ) Refusal → Type 0
LentAs template script names bookings desk grid (Ok (e, count)) =
    ReadFor template script names e bookings count desk grid
LentAs template script names bookings desk grid (Err r) =
    smallest_reading template script bookings desk grid ≡ turned_down (number r.0) r.1

-- The same of a sheet and a list that are lent.
abbrev pub listed_as :
    Bor (List ℕ) → Bor (List ℕ) → Bor (List ℕ) → Extent → Bor (List ℕ) → ℕ → ListedSheet
listed_as template script names extent bookings count =
    record {
      sheet = record { template = template; script = script; names = names; extent = extent };
      bookings = bookings;
      count = count;
    }

abbrev pub ListedKnown : ListedSheet → Type 0
ListedKnown listed =
    BookedSheet listed.sheet.template.now listed.sheet.script.now listed.sheet.names.now listed.sheet.extent
    listed.bookings.now listed.count

abbrev pub ListedFor : ListedSheet → ℕ → List ℕ → Type 0
ListedFor listed desk grid =
    ReadFor listed.sheet.template.now listed.sheet.script.now listed.sheet.names.now listed.sheet.extent
    listed.bookings.now listed.count desk grid

-- What is read for a desk and a grid, and another grid of the sheet's size.
pub record TwoGrids (listed : ListedSheet) (desk : ℕ) (one other : List ℕ) : Type 0 where
  pub lent : ListedFor listed desk one
  pub other-size : length other ≡ listed.sheet.extent.cards * listed.sheet.extent.shapes

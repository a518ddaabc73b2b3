-- What reading a sheet and a booking list finds, by what its steps find.
--   sheet-refused                both are turned down for the sheet
--   list-taken, list-refused     the list is read, and so are both; or both are turned down for it
--   listed-asked, lent-asked     the sheet of a list that is read, and for a desk and a grid
--   desk-refused, size-refused   what is lent is turned down for the desk or the grid
-- Assumes nothing.
use Prim.Native.Nat.{ℕ, ◌≤◌, ◌<◌}
use mathlib.Core.Path.{◌≡◌, refl}
use mathlib.Core.List.{List}
use lib.ListN.{length}
use borrow.Author.Tests.{lt-ltb, le-ltb, ne_eqb}
use Rattle.words.specs.Reading.{Reading, accepted, turned_down, then}
use Rattle.sheet.specs.Sheet.{Sheet, size, read_sheet}
use Rattle.sheet.specs.Opened.{Known}
use Rattle.sheet.specs.declared.Extent.{Extent}
use Rattle.bookings.specs.Bookings.{read_bookings}
use Rattle.typing.specs.Calls.{with_list, listed_reading, booked_reading, smallest_reading}
use Rattle.typing.proofs.Booked.{desk-taken, grid-taken}
use Rattle.lent.specs.Readings.{BookedSheet, ReadFor}
use Rattle.lent.proofs.KnownSheet.{sheet, asked}

-- A sheet that is turned down, and so are sheet and list.
pub sheet-refused : (list : ℕ → ℕ → Reading ℕ) (template script : List ℕ) {number place : ℕ}
    → read_sheet template script ≡ turned_down number place
    → then (read_sheet template script) (with_list list) ≡ turned_down number place
sheet-refused list template script refused = rw refused refl

-- A booking list of a sheet that is read, by a reading of it.
module _ (reading : ℕ → ℕ → Reading ℕ) {template script names : List ℕ} {e : Extent}
    (k : Known template script names e) where
  pub list-taken : {count : ℕ} → reading e.cards e.shapes ≡ accepted count
      → then (read_sheet template script) (with_list reading) ≡ accepted (sheet k)
  list-taken read = rw (asked k, read) refl

  pub list-refused : {number place : ℕ} → reading e.cards e.shapes ≡ turned_down number place
      → then (read_sheet template script) (with_list reading) ≡ turned_down number place
  list-refused h = rw (asked k, h) refl

-- A list of both desks.
module _ {template script names : List ℕ} {e : Extent} {bookings : List ℕ} {count : ℕ} where
  pub listed-asked : (l : BookedSheet template script names e bookings count)
      → listed_reading template script bookings ≡ accepted (sheet l.known)
  listed-asked l = list-taken (λ cards shapes. read_bookings cards shapes bookings) l.known l.list

  -- for a desk, and with a grid
  pub lent-asked : {desk : ℕ} {grid : List ℕ} (l : ReadFor template script names e bookings count desk grid)
      → smallest_reading template script bookings desk grid ≡ accepted (sheet l.booked.known)
  lent-asked {desk} {grid} l =
      grid-taken grid (booked_reading template script bookings desk) (sheet l.booked.known)
      (desk-taken desk (listed_reading template script bookings) (sheet l.booked.known) (listed-asked l.booked)
      l.ours) l.size

-- The refusals of a desk and of a grid, where the list is read.
module _ (template script bookings : List ℕ) {s : Sheet} (taken : listed_reading template script bookings ≡ accepted s)
    {desk : ℕ} (grid : List ℕ) where
  pub desk-refused : 1 < desk → smallest_reading template script bookings desk grid ≡ turned_down 66 0
  desk-refused over = rw (taken, lt-ltb 1 desk over) refl

  pub size-refused : desk ≤ 1 → (length grid ≡ size s → ⊥)
      → smallest_reading template script bookings desk grid ≡ turned_down 40 0
  size-refused ours other = rw (taken, le-ltb 1 desk ours, ne_eqb (length grid) (size s) other) refl

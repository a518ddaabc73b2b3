-- What printing a sheet asks for and leaves behind; no part of a promise.
-- typing_room, text_room   bytes that are enough for one typing, and for a whole sheet
-- settled_text    the text of how a desk's bookings fared
-- SheetWritten   the text of a sheet was written to the front of a buffer
-- Settling       a grid of a sheet that can be, and room for its text
-- Putting        and a line in front of it
-- Printing       what is read of a sheet, with its grids and with room for its text
-- Assumes nothing.
use Rattle.std.specs.Prelude.{ℕ, ◌+◌, ◌*◌, ◌≤◌, List, length, Result, Ok, Err}
use Rattle.words.specs.Limits.{max_cards, max_shapes}
use Rattle.words.specs.Wrote.{Wrote}
use Rattle.sheet.specs.declared.Extent.{Extent}
use Rattle.text.specs.Text.{not_met_line}
use Rattle.text.specs.declared.Writer.{Writer}
use Rattle.words.specs.declared.Card.{Card}
use Rattle.words.specs.declared.Shape.{Shape}
use Rattle.typing.specs.Calls.{listed_reading}
use Rattle.lent.specs.declared.ListedSheet.{ListedSheet}
use Rattle.desks.specs.ThreeGrids.{ThreeGrids}
use Rattle.sheet_text.specs.Printed.{pairs_text, PrintsSheet}

-- Bytes that are enough for one typing.
abbrev pub typing_room : ℕ
typing_room = 131072

-- Bytes that are enough for the largest and each desk's smallest.
abbrev pub text_room : ℕ
text_room = 3 * typing_room

-- What is written of how a desk's bookings fared: its smallest typing, or the one line of 50.
abbrev pub settled_text : Result ℕ (Card × Shape) → List ℕ → ℕ → ℕ → List ℕ
settled_text (Ok pairs) grid shapes cards = pairs_text pairs grid shapes cards
settled_text (Err (card, shape)) grid shapes cards = not_met_line card.0 shape.0

-- A text for the sheet of template, script and bookings was written to the front of a buffer.
pub record SheetWritten (template script bookings before after : List ℕ) (next : ℕ) : Type 0 where
  pub text : List ℕ
  pub prints : PrintsSheet (listed_reading template script bookings) bookings text
  pub wrote : Wrote before 0 text after next

-- A grid has the places of a sheet's shapes and cards, a sheet can have that many, and a writer has room for its lines.
pub record Settling (grid : List ℕ) (e : Extent) (w : Writer) : Type 0 where
  pub inside : e.cards * e.shapes ≤ length grid
  pub few-shapes : e.shapes ≤ max_shapes
  pub few-cards : e.cards ≤ max_cards
  pub room : w.end + typing_room ≤ length w.out.now

-- The same with a line in front, of a word and numbers.
pub record Putting (word numbers grid : List ℕ) (e : Extent) (w : Writer) : Type 0 where
  pub short : length word ≤ 8
  pub few : length numbers ≤ 3
  pub lent : Settling grid e w

-- A sheet and a booking list that are read, three grids of its size, and room for its text.
pub record Printing (listed : ListedSheet) (radio television large out : List ℕ) : Type 0 where
  pub lent : ThreeGrids listed radio television large
  pub room : text_room ≤ length out

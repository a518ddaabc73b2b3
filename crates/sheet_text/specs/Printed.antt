-- What is printed of a sheet and its bookings (docs/FORMAT.md, "The printer").
-- largest_text, pairs_text   the lines of the largest typing, and of the smallest
-- smallest_text    those of a desk's smallest, or the one line of 50
-- SheetPrinted    the text of a sheet whose template, script and bookings are read
-- PrintsSheet     the text of any sheet
-- Assumes nothing.
use Rattle.std.specs.Prelude.{ℕ, ◌≡◌, List, ◌++◌}
use Rattle.words.specs.Reading.{Reading, accepted, turned_down}
use Rattle.text.specs.Text.{card_lines, largest_line, smallest_line, not_met_line, refused_line}
use Rattle.sheet.specs.Sheet.{Sheet}
use Rattle.typing.specs.Answer.{DesksSaid}
use Rattle.typing.specs.Demand3.{Outcome, pairs, not_met}
use Rattle.typing.specs.Desks.{DeskGrids, DesksFound}

-- The line of the largest typing: rounds, pairs struck, cards with some link and no shape. Then a line for each
-- card.
abbrev pub largest_text : ℕ → ℕ → ℕ → List ℕ → ℕ → ℕ → List ℕ
largest_text rounds struck bare grid shapes cards = largest_line rounds struck bare ++ card_lines grid shapes cards

-- The line of the smallest typing: its number of pairs. Then a line for each card.
abbrev pub pairs_text : ℕ → List ℕ → ℕ → ℕ → List ℕ
pairs_text m grid shapes cards = smallest_line m ++ card_lines grid shapes cards

-- A desk's smallest typing; or the one line of 50, its card and its shape, with no card lines after it.
abbrev pub smallest_text : Sheet → List ℕ → Outcome → List ℕ
smallest_text s grid (pairs m) = pairs_text m grid s.shapes s.cards
smallest_text s grid (not_met n t) = not_met_line n t

-- The largest typing of the sheet and then each desk's smallest, radio's first, with the numbers that the calls say.
pub record SheetPrinted (s : Sheet) (bookings text : List ℕ) : Type 0 where
  pub grids : DeskGrids
  pub said : DesksSaid
  pub found : DesksFound s bookings grids said
  pub prints : text ≡ largest_text found.radio.largest.rounds found.radio.largest.struck
      found.radio.largest.bare grids.large s.shapes s.cards
      ++ (smallest_text s grids.radio found.radio.smallest.outcome
      ++ smallest_text s grids.television found.television.smallest.outcome)

-- Any refusal but 50 prints only its number and its place.
abbrev pub PrintsSheet : Reading Sheet → List ℕ → List ℕ → Type 0
PrintsSheet (turned_down number place) bookings text = text ≡ refused_line number place
PrintsSheet (accepted s) bookings text = SheetPrinted s bookings text

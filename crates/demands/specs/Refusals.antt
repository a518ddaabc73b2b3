-- Every refusal of docs/FORMAT.md, "Refusals", happens: a table with an input for each number, and one for each further
-- fault that a number stands for.
-- Asked        an operation with what it is lent
-- Row          a refusal's number, its place, and an input that gets it; Gets: it does get it there
-- refusals     a row for each number; listed: the numbers
-- others       a row for each further fault
-- Assumes nothing.
use Rattle.std.specs.Prelude.{ℕ, ◌≡◌, List, [], ◌∷◌, cond, eqb, length, replicate}
use Rattle.words.specs.Said.{refusal}
use Rattle.words.specs.Reading.{said_of}
use Rattle.template.specs.Template.{template_says}
use Rattle.script.specs.Script.{script_says}
use Rattle.counts.specs.Fit.{FitSays}
use Rattle.typing.specs.Calls.{LargestSays, SmallestSays}
use Rattle.typing.specs.Judge.{JudgeSays}
use Rattle.typing.specs.Tidy.{TidySays}
use Rattle.input.specs.Input.{read_input}
use Rattle.demands.specs.Worked as worked
use Rattle.demands.specs.Judged.{unmet_grid}

-- An operation, with the words and bytes that it is lent.
pub data Asked : Type 0 where
  -- "Read a template"
  template : List ℕ → Asked
  -- "Fit counts": a template, a shape and counts
  fit : List ℕ → ℕ → List ℕ → Asked
  -- "Read a script": a template and a script
  script : List ℕ → List ℕ → Asked
  -- "Largest": a template, a script and a grid
  largest : List ℕ → List ℕ → List ℕ → Asked
  -- "Smallest": a template, a script, bookings, a desk and a grid
  smallest : List ℕ → List ℕ → List ℕ → ℕ → List ℕ → Asked
  -- "Judge": a template, a script, bookings, a desk and a grid
  judge : List ℕ → List ℕ → List ℕ → ℕ → List ℕ → Asked
  -- "Tidy": a template, a script, bookings and a buffer
  tidy : List ℕ → List ℕ → List ℕ → List ℕ → Asked
  -- the printer's input
  printer : List ℕ → Asked

-- A refusal's number, its place (an index, or a card and a shape), and an input.
pub data Row : Type 0 where
  row : ℕ → List ℕ → Asked → Row

-- A grid after a refusal: all 0 after 50, else as it was.
abbrev pub after_refusal : ℕ → List ℕ → List ℕ
after_refusal number grid = cond (eqb number 50) (replicate (length grid) 0) grid

-- The operation says this refusal of this input, and leaves the grid so.
abbrev pub Gets : Row → Type 0
Gets (row number at (template words)) = template_says words ≡ refusal number at
Gets (row number at (fit words shape counts)) = FitSays words shape counts (refusal number at)
Gets (row number at (script words list)) = script_says words list ≡ refusal number at
Gets (row number at (largest words list grid)) = LargestSays words list grid grid (refusal number at)
Gets (row number at (smallest words list bookings desk grid)) =
    SmallestSays words list bookings desk grid (after_refusal number grid) (refusal number at)
Gets (row number at (judge words list bookings desk grid)) =
    JudgeSays words list bookings desk grid (refusal number at)
Gets (row number at (tidy words list bookings out)) = TidySays words list bookings out out (refusal number at)
Gets (row number at (printer bytes)) = said_of (λ input. []) (read_input bytes) ≡ refusal number at

-- Every row does.
abbrev pub AllGet : List Row → Type 0
AllGet [] = Unit {0}
AllGet (r ∷ rs) = Gets r × AllGet rs

-- One kind and one shape, which asks for no links.
abbrev pub plain : List ℕ
plain = 1 ∷ 1 ∷ 1 ∷ 0 ∷ []

-- One card, no links.
abbrev pub alone : List ℕ
alone = 1 ∷ 0 ∷ []

-- A row for each number, in order.
abbrev pub refusals : List Row
refusals =
    -- no words
    row 1 (0 ∷ []) (template [])
    -- no kinds
    ∷ row 2 (0 ∷ []) (template (0 ∷ 1 ∷ []))
    -- no shapes
    ∷ row 3 (1 ∷ []) (template (1 ∷ 0 ∷ []))
    -- the shape's count of words is missing
    ∷ row 4 (2 ∷ []) (template (1 ∷ 1 ∷ []))
    -- no part has the code 4
    ∷ row 5 (3 ∷ []) (template (1 ∷ 1 ∷ 1 ∷ 4 ∷ []))
    -- nothing inside twelve optional parts
    ∷ row 6 (15 ∷ []) (template
    (1 ∷ 1 ∷ 13 ∷ 3 ∷ 3 ∷ 3 ∷ 3 ∷ 3 ∷ 3 ∷ 3 ∷ 3 ∷ 3 ∷ 3 ∷ 3 ∷ 3 ∷ 0 ∷ []))
    -- a link of kind 1 where there is one kind
    ∷ row 7 (3 ∷ []) (template (1 ∷ 1 ∷ 4 ∷ 257 ∷ 0 ∷ 0 ∷ 1 ∷ []))
    -- kind 0 stands twice
    ∷ row 8 (9 ∷ []) (template (1 ∷ 1 ∷ 10 ∷ 17 ∷ 2 ∷ 256 ∷ 0 ∷ 0 ∷ 1 ∷ 256 ∷ 0 ∷ 0 ∷ 1 ∷ []))
    -- a link to shape 1 where there is one shape
    ∷ row 9 (4 ∷ []) (template (1 ∷ 1 ∷ 4 ∷ 256 ∷ 1 ∷ 0 ∷ 1 ∷ []))
    -- the high is below the low
    ∷ row 10 (5 ∷ []) (template (1 ∷ 1 ∷ 4 ∷ 256 ∷ 0 ∷ 1 ∷ 0 ∷ []))
    -- a group of one part
    ∷ row 11 (4 ∷ []) (template (1 ∷ 1 ∷ 3 ∷ 17 ∷ 1 ∷ 0 ∷ []))
    -- a word is left after the shape's part
    ∷ row 12 (4 ∷ []) (template (1 ∷ 1 ∷ 2 ∷ 0 ∷ 0 ∷ []))
    -- no words
    ∷ row 20 (0 ∷ []) (script plain [])
    -- 1,025 cards
    ∷ row 21 (0 ∷ []) (script plain (1025 ∷ 0 ∷ []))
    -- 8,193 links
    ∷ row 22 (1 ∷ []) (script plain (0 ∷ 8193 ∷ []))
    -- a link starts at card 1 where there is one card
    ∷ row 23 (2 ∷ []) (script plain (1 ∷ 1 ∷ 1 ∷ 0 ∷ 0 ∷ []))
    -- a link of kind 1 where there is one kind
    ∷ row 24 (3 ∷ []) (script plain (1 ∷ 1 ∷ 0 ∷ 1 ∷ 0 ∷ []))
    -- two equal links
    ∷ row 25 (5 ∷ []) (script plain (1 ∷ 2 ∷ 0 ∷ 0 ∷ 0 ∷ 0 ∷ 0 ∷ 0 ∷ []))
    -- no words
    ∷ row 30 (0 ∷ []) (smallest plain alone [] 0 (7 ∷ []))
    -- 1,025 bookings
    ∷ row 31 (0 ∷ []) (smallest plain alone (1025 ∷ []) 0 (7 ∷ []))
    -- a booking of card 1 where there is one card
    ∷ row 32 (2 ∷ []) (smallest plain alone (1 ∷ 0 ∷ 1 ∷ 0 ∷ []) 0 (7 ∷ []))
    -- a booking of shape 1 where there is one shape
    ∷ row 33 (3 ∷ []) (smallest plain alone (1 ∷ 0 ∷ 0 ∷ 1 ∷ []) 0 (7 ∷ []))
    -- a grid of no bytes
    ∷ row 40 (0 ∷ []) (largest plain alone [])
    -- no counts where there is one kind
    ∷ row 41 (0 ∷ []) (fit plain 0 [])
    -- shape 1 where there is one shape
    ∷ row 42 (0 ∷ []) (fit plain 1 (0 ∷ 0 ∷ []))
    -- a count of 8,193
    ∷ row 43 (0 ∷ []) (fit plain 0 (8193 ∷ 0 ∷ []))
    -- the worked sheet's booking that cannot be met
    ∷ row 50 (0 ∷ 1 ∷ []) (smallest worked.template worked.script worked.unmet_bookings 0 worked.last_shape)
    -- no bytes
    ∷ row 60 (0 ∷ []) (printer [])
    -- a byte of 2
    ∷ row 61 (0 ∷ []) (judge plain alone (0 ∷ []) 0 (2 ∷ []))
    -- the worked sheet, with two pairs that are not met
    ∷ row 62 (1 ∷ 0 ∷ []) (judge worked.template worked.script worked.met_bookings 0 unmet_grid)
    -- the worked sheet's booking that is not in the grid
    ∷ row 63 (2 ∷ []) (judge worked.template worked.script worked.unmet_bookings 0 worked.last_shape)
    -- the word of an open shape twice
    ∷ row 64 (4 ∷ []) (template (1 ∷ 1 ∷ 3 ∷ 18 ∷ 18 ∷ 0 ∷ []))
    -- a pair that a desk books twice
    ∷ row 65 (5 ∷ []) (smallest plain alone (2 ∷ 0 ∷ 0 ∷ 0 ∷ 0 ∷ 0 ∷ 0 ∷ []) 0 (7 ∷ []))
    -- a booking of desk 2
    ∷ row 66 (1 ∷ []) (smallest plain alone (1 ∷ 2 ∷ 0 ∷ 0 ∷ []) 0 (7 ∷ []))
    ∷ []

-- The numbers of docs/FORMAT.md.
abbrev pub listed : List ℕ
listed =
    1 ∷ 2 ∷ 3 ∷ 4 ∷ 5 ∷ 6 ∷ 7 ∷ 8 ∷ 9 ∷ 10 ∷ 11 ∷ 12 ∷ 20 ∷ 21 ∷ 22 ∷ 23 ∷ 24 ∷ 25 ∷ 30 ∷ 31 ∷ 32 ∷ 33
    ∷ 40 ∷ 41 ∷ 42 ∷ 43 ∷ 50 ∷ 60 ∷ 61 ∷ 62 ∷ 63 ∷ 64 ∷ 65 ∷ 66 ∷ []

-- The numbers of some rows.
abbrev pub numbers_of : List Row → List ℕ
numbers_of [] = []
numbers_of (row number at asked ∷ rs) = number ∷ numbers_of rs

-- The further faults that a number stands for.
abbrev pub others : List Row
others =
    -- 4,097 words
    row 1 (0 ∷ []) (template (replicate 4097 0))
    -- 65 kinds
    ∷ row 2 (0 ∷ []) (template (65 ∷ 1 ∷ []))
    -- 33 shapes
    ∷ row 3 (1 ∷ []) (template (1 ∷ 33 ∷ []))
    -- the shape's words reach past the template's end
    ∷ row 4 (4 ∷ []) (template (1 ∷ 1 ∷ 2 ∷ 0 ∷ []))
    -- a shape of no words: its code is missing
    ∷ row 4 (3 ∷ []) (template (1 ∷ 1 ∷ 0 ∷ []))
    -- a link without its high
    ∷ row 4 (6 ∷ []) (template (1 ∷ 1 ∷ 3 ∷ 256 ∷ 0 ∷ 0 ∷ []))
    -- a group without its count
    ∷ row 4 (4 ∷ []) (template (1 ∷ 1 ∷ 1 ∷ 17 ∷ []))
    -- an open shape without its part
    ∷ row 4 (4 ∷ []) (template (1 ∷ 1 ∷ 1 ∷ 18 ∷ []))
    -- the last code below the groups, and the last below the links
    ∷ row 5 (3 ∷ []) (template (1 ∷ 1 ∷ 1 ∷ 15 ∷ []))
    ∷ row 5 (3 ∷ []) (template (1 ∷ 1 ∷ 1 ∷ 255 ∷ []))
    -- the first code past the open shape's
    ∷ row 5 (3 ∷ []) (template (1 ∷ 1 ∷ 1 ∷ 19 ∷ []))
    -- the first code past the incoming links
    ∷ row 5 (3 ∷ []) (template (1 ∷ 1 ∷ 4 ∷ 384 ∷ 0 ∷ 0 ∷ 1 ∷ []))
    -- nothing inside twelve optional parts, in an open shape
    ∷ row 6 (16 ∷ []) (template
    (1 ∷ 1 ∷ 14 ∷ 18 ∷ 3 ∷ 3 ∷ 3 ∷ 3 ∷ 3 ∷ 3 ∷ 3 ∷ 3 ∷ 3 ∷ 3 ∷ 3 ∷ 3 ∷ 0 ∷ []))
    -- the word of an open shape inside twelve optional parts
    ∷ row 6 (15 ∷ []) (template
    (1 ∷ 1 ∷ 13 ∷ 3 ∷ 3 ∷ 3 ∷ 3 ∷ 3 ∷ 3 ∷ 3 ∷ 3 ∷ 3 ∷ 3 ∷ 3 ∷ 3 ∷ 18 ∷ []))
    -- an incoming link of kind 1 where there is one kind
    ∷ row 7 (3 ∷ []) (template (1 ∷ 1 ∷ 4 ∷ 321 ∷ 0 ∷ 0 ∷ 1 ∷ []))
    -- an incoming link of kind 63 where there are 63 kinds
    ∷ row 7 (3 ∷ []) (template (63 ∷ 1 ∷ 4 ∷ 383 ∷ 0 ∷ 0 ∷ 1 ∷ []))
    -- kind 0 stands twice as an incoming one
    ∷ row 8 (9 ∷ []) (template (1 ∷ 1 ∷ 10 ∷ 17 ∷ 2 ∷ 320 ∷ 0 ∷ 0 ∷ 1 ∷ 320 ∷ 0 ∷ 0 ∷ 1 ∷ []))
    -- the low is over 8,192
    ∷ row 10 (5 ∷ []) (template (1 ∷ 1 ∷ 4 ∷ 256 ∷ 0 ∷ 8193 ∷ 65535 ∷ []))
    -- the high is over 8,192 and not 65,535
    ∷ row 10 (5 ∷ []) (template (1 ∷ 1 ∷ 4 ∷ 256 ∷ 0 ∷ 0 ∷ 8193 ∷ []))
    -- a group of 17 parts
    ∷ row 11 (4 ∷ []) (template (1 ∷ 1 ∷ 3 ∷ 16 ∷ 17 ∷ 0 ∷ []))
    -- a group of 18 parts
    ∷ row 11 (4 ∷ []) (template (1 ∷ 1 ∷ 4 ∷ 17 ∷ 18 ∷ 0 ∷ 0 ∷ []))
    -- a word is left after an open shape's part
    ∷ row 12 (8 ∷ []) (template (1 ∷ 1 ∷ 6 ∷ 18 ∷ 256 ∷ 0 ∷ 1 ∷ 1 ∷ 0 ∷ []))
    -- a word is left after the first of two shapes
    ∷ row 12 (4 ∷ []) (template (1 ∷ 2 ∷ 2 ∷ 0 ∷ 0 ∷ 1 ∷ 0 ∷ []))
    -- a word is left after the last shape
    ∷ row 12 (4 ∷ []) (template (1 ∷ 1 ∷ 1 ∷ 0 ∷ 0 ∷ []))
    -- a word too many for its count of links
    ∷ row 20 (0 ∷ []) (script plain (1 ∷ 0 ∷ 0 ∷ []))
    -- one word
    ∷ row 20 (0 ∷ []) (script plain (1 ∷ []))
    -- 1,024 cards, and a word too many
    ∷ row 20 (0 ∷ []) (script plain (1024 ∷ 0 ∷ 0 ∷ []))
    -- 8,192 links that are not there
    ∷ row 20 (0 ∷ []) (script plain (1 ∷ 8192 ∷ []))
    -- a link of kind 1 that starts at card 1, where there is one of each
    ∷ row 23 (2 ∷ []) (script plain (1 ∷ 1 ∷ 1 ∷ 1 ∷ 0 ∷ []))
    -- a link leads to card 1 where there is one card
    ∷ row 23 (4 ∷ []) (script plain (1 ∷ 1 ∷ 0 ∷ 0 ∷ 1 ∷ []))
    -- a link of kind 1 that leads to card 1, where there is one of each
    ∷ row 24 (3 ∷ []) (script plain (1 ∷ 1 ∷ 0 ∷ 1 ∷ 1 ∷ []))
    -- a link that leads to a lower card than the one before it
    ∷ row 25 (5 ∷ []) (script plain (2 ∷ 2 ∷ 0 ∷ 0 ∷ 1 ∷ 0 ∷ 0 ∷ 0 ∷ []))
    -- the third link equals the second, which is above the first by the card that it leads to alone
    ∷ row 25 (8 ∷ []) (script plain (2 ∷ 3 ∷ 0 ∷ 0 ∷ 0 ∷ 0 ∷ 0 ∷ 1 ∷ 0 ∷ 0 ∷ 1 ∷ []))
    -- a word too few for its count of bookings
    ∷ row 30 (0 ∷ []) (smallest plain alone (1 ∷ 0 ∷ 0 ∷ []) 0 (7 ∷ []))
    -- a grid of two bytes where there is one pair
    ∷ row 40 (0 ∷ []) (smallest plain alone (0 ∷ []) 0 (7 ∷ 7 ∷ []))
    -- a grid of no bytes, judged
    ∷ row 40 (0 ∷ []) (judge plain alone (0 ∷ []) 0 [])
    -- a buffer of three words for one booking
    ∷ row 40 (0 ∷ []) (tidy plain alone (1 ∷ 0 ∷ 0 ∷ []) (7 ∷ 7 ∷ 7 ∷ []))
    -- one count where there is one kind, which leaves and arrives
    ∷ row 41 (0 ∷ []) (fit plain 0 (0 ∷ []))
    -- shape 1 where there is one shape, and no counts
    ∷ row 42 (0 ∷ []) (fit plain 1 [])
    -- 8,193 arriving links
    ∷ row 43 (1 ∷ []) (fit plain 0 (0 ∷ 8193 ∷ []))
    -- a byte after the bookings
    ∷ row 60 (0 ∷ []) (printer (0 ∷ 0 ∷ 0 ∷ 0 ∷ 0 ∷ 0 ∷ 0 ∷ []))
    -- the bookings' last word is missing
    ∷ row 60 (0 ∷ []) (printer (0 ∷ 0 ∷ 0 ∷ 0 ∷ 1 ∷ 0 ∷ []))
    -- the word of an open shape in a star, and in a group
    ∷ row 64 (4 ∷ []) (template (1 ∷ 1 ∷ 3 ∷ 1 ∷ 18 ∷ 0 ∷ []))
    ∷ row 64 (6 ∷ []) (template (1 ∷ 1 ∷ 5 ∷ 17 ∷ 2 ∷ 0 ∷ 18 ∷ 0 ∷ []))
    -- a pair that television books twice, desk 2 and a grid of no bytes
    ∷ row 65 (5 ∷ []) (judge plain alone (2 ∷ 1 ∷ 0 ∷ 0 ∷ 1 ∷ 0 ∷ 0 ∷ []) 2 [])
    -- desk 2 is asked for, with a grid of no bytes
    ∷ row 66 (0 ∷ []) (smallest plain alone (0 ∷ []) 2 [])
    ∷ row 66 (0 ∷ []) (judge plain alone (0 ∷ []) 2 [])
    ∷ []

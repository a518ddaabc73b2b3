-- The text of a printed sheet (docs/FORMAT.md, "The printer"), as a list of bytes.
-- digits        a number in base ten
-- shape_text, shapes_text   a shape, and the shapes of a card, ascending, a space before each
-- card_line, card_lines   a line for a card, and the lines for all cards
-- two_numbers    two numbers that end a line
-- largest_line, smallest_line, not_met_line, refused_line   the other lines
-- Assumes nothing.
use Rattle.std.specs.Prelude.{ℕ, zero, suc, ◌+◌, ◌*◌, ◌/◌, ◌%◌, List, [], ◌∷◌, ◌++◌, Bool, true, false, cond, ltb}
use Rattle.board.specs.Grid.{on}

-- A text if a test passes, else nothing.
abbrev pub when_on : Bool → List ℕ → List ℕ
when_on true text = text
when_on false text = []

-- A digit's byte.
abbrev pub digit : ℕ → ℕ
digit d = 48 + d

-- A number's digits by so many steps at most, the last digit last: below ten its own digit, else those of the tenth
-- part and the rest.
unfoldable pub digits_by : ℕ → ℕ → List ℕ
digits_by zero n = []
digits_by (suc steps) n = cond (ltb n 10) (digit n ∷ []) (digits_by steps (n / 10) ++ (digit (n % 10) ∷ []))

-- A number below 10^20 in base ten.
unfoldable pub digits : ℕ → List ℕ
digits n = digits_by 20 n

-- The bytes of a space and of a line's end.
abbrev pub space : ℕ
space = 32

abbrev pub newline : ℕ
newline = 10

-- The words "largest ", "smallest ", "no ", "card ", "refused ".
abbrev largest_word : List ℕ
largest_word = 108 ∷ 97 ∷ 114 ∷ 103 ∷ 101 ∷ 115 ∷ 116 ∷ 32 ∷ []

abbrev smallest_word : List ℕ
smallest_word = 115 ∷ 109 ∷ 97 ∷ 108 ∷ 108 ∷ 101 ∷ 115 ∷ 116 ∷ 32 ∷ []

abbrev no_word : List ℕ
no_word = 110 ∷ 111 ∷ 32 ∷ []

abbrev card_word : List ℕ
card_word = 99 ∷ 97 ∷ 114 ∷ 100 ∷ 32 ∷ []

abbrev pub refused_word : List ℕ
refused_word = 114 ∷ 101 ∷ 102 ∷ 117 ∷ 115 ∷ 101 ∷ 100 ∷ 32 ∷ []

-- Two numbers, a space between them, and the end of the line.
unfoldable pub two_numbers : ℕ → ℕ → List ℕ
two_numbers a b = digits a ++ (space ∷ (digits b ++ (newline ∷ [])))

-- The line of the largest typing: rounds, pairs struck, cards with some link and no shape.
unfoldable pub largest_line : ℕ → ℕ → ℕ → List ℕ
largest_line rounds struck bare = largest_word ++ (digits rounds ++ (space ∷ two_numbers struck bare))

-- The line of the smallest typing: its number of pairs.
unfoldable pub smallest_line : ℕ → List ℕ
smallest_line pairs = smallest_word ++ (digits pairs ++ (newline ∷ []))

-- The line of bookings that are not met, as `smallest no 0 1`: the card and the shape of 50.
unfoldable pub not_met_line : ℕ → ℕ → List ℕ
not_met_line card shape = smallest_word ++ (no_word ++ two_numbers card shape)

-- The one line of any other refusal: its number and its place.
unfoldable pub refused_line : ℕ → ℕ → List ℕ
refused_line number place = refused_word ++ two_numbers number place

-- A shape after a space, where the grid has its place.
abbrev pub shape_text : List ℕ → ℕ → ℕ → List ℕ
shape_text grid place shape = when_on (on grid place) (space ∷ digits shape)

-- Of the shapes below t, those of the card whose row starts at `base`, ascending.
unfoldable pub shapes_text : List ℕ → ℕ → ℕ → List ℕ
shapes_text grid base zero = []
shapes_text grid base (suc t) = shapes_text grid base t ++ shape_text grid (base + t) t

-- The line of a card: its number, and its shapes.
unfoldable pub card_line : List ℕ → ℕ → ℕ → List ℕ
card_line grid shapes n = card_word ++ (digits n ++ (58 ∷ (shapes_text grid (n * shapes) shapes ++ (newline ∷ []))))

-- The lines of the cards below n, in order.
unfoldable pub card_lines : List ℕ → ℕ → ℕ → List ℕ
card_lines grid shapes zero = []
card_lines grid shapes (suc n) = card_lines grid shapes n ++ card_line grid shapes n

-- What the sheet printer writes for its input, from bytes to bytes (docs/FORMAT.md, "The printer").
-- Prints   the text for any input
-- Assumes nothing.
use Rattle.std.specs.Prelude.{ℕ, ◌≡◌, List}
use Rattle.words.specs.Reading.{Reading, accepted, turned_down}
use Rattle.text.specs.Text.{refused_line}
use Rattle.input.specs.Input.{Input, read_input}
use Rattle.typing.specs.Calls.{listed_reading}
use Rattle.sheet_text.specs.Printed.{PrintsSheet}

-- 60, then the refusals of template, script and bookings, each place counted in its own file.
abbrev pub PrintsInput : Reading Input → List ℕ → Type 0
PrintsInput (turned_down number place) text = text ≡ refused_line number place
PrintsInput (accepted i) text =
    PrintsSheet (listed_reading i.template i.script i.bookings) i.bookings text

-- The text for the input's bytes.
abbrev pub Prints : List ℕ → List ℕ → Type 0
Prints input text = PrintsInput (read_input input) text

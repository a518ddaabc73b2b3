-- What the list tidier writes for its input, from bytes to bytes (docs/FORMAT.md, "The list tidier").
-- tidied_words   the words of the tidied list of files that are read, or the first refusal
-- list_text      its bytes, or the line of a refusal
-- tidy_text      the text for any input
-- Assumes nothing.
use Rattle.std.specs.Prelude.{ℕ, List}
use Rattle.words.specs.Bytes.{write_words}
use Rattle.words.specs.Reading.{Reading, accepted, turned_down, then, mapped}
use Rattle.input.specs.Input.{read_input}
use Rattle.text.specs.Text.{refused_line}
use Rattle.sheet.specs.Sheet.{read_sheet}
use Rattle.stored.specs.Tidied.{tidied}
use Rattle.typing.specs.Calls.{with_stored}

-- The refusals of template and script, and those of the list as it was stored, as "Tidy bookings" has them.
unfoldable pub tidied_words : List ℕ → List ℕ → List ℕ → Reading (List ℕ)
tidied_words template script bookings =
    mapped (λ s. tidied bookings) (then (read_sheet template script) (with_stored bookings))

-- Two bytes for each word, the low one first; or a refusal's number and its place.
unfoldable pub list_text : Reading (List ℕ) → List ℕ
list_text (accepted words) = write_words words
list_text (turned_down number place) = refused_line number place

-- 60, and then these refusals, each place counted in its own file.
abbrev pub tidy_text : List ℕ → List ℕ
tidy_text input = list_text (then (read_input input) (λ i. tidied_words i.template i.script i.bookings))

-- What tidying a list of bookings says and writes, on all inputs (docs/FORMAT.md, "Tidying" and "Tidy bookings").
-- with_buffer     the refusal of a buffer
-- tidy_reading    the sheet of what is lent, or the first refusal
-- TidySays       the contract: the tidied list is written; a refusal changes no word of the buffer
-- StoredSmallestSays   what the call for the smallest would say of a stored list, if it took one; theorems alone speak
--                      of it
-- Assumes nothing.
use Rattle.std.specs.Prelude.{ℕ, ◌+◌, ◌*◌, not, List, length, get_or, eqb}
use Rattle.words.specs.Said.{Said}
use Rattle.words.specs.Reading.{Reading, accepted, refuse, then}
use Rattle.words.specs.Answered.{Answered, Unchanged}
use Rattle.words.specs.Writes.{Writes}
use Rattle.sheet.specs.Sheet.{Sheet, read_sheet}
use Rattle.stored.specs.Stored.{StoredBooked}
use Rattle.stored.specs.Tidied.{tidied}
use Rattle.typing.specs.Calls.{with_stored, with_grid, SmallestFound}

-- 40: the buffer has not a word for the count and three for each booking of the list.
abbrev pub with_buffer : List ℕ → List ℕ → Sheet → Reading Sheet
with_buffer bookings out s = refuse 40 0 (not (eqb (length out) (1 + 3 * get_or bookings 0 0))) (accepted s)

-- The refusals of template and script, those of the list as it was stored, 40.
abbrev pub tidy_reading : List ℕ → List ℕ → List ℕ → List ℕ → Reading Sheet
tidy_reading template script bookings out =
    then (then (read_sheet template script) (with_stored bookings)) (with_buffer bookings out)

-- Tidy: of a template, a script, bookings, the buffer before and after the call, and what is said. Where nothing is
-- refused the tidied list is written to the buffer's front.
abbrev pub TidySays : List ℕ → List ℕ → List ℕ → List ℕ → List ℕ → Said → Type 0
TidySays template script bookings before after said =
    Answered (tidy_reading template script bookings before) (Unchanged before after said)
    (λ s. Writes (tidied bookings) before after said)

-- Smallest, of a stored list: of a template, a script, bookings, the grid before and after, and what is said.
abbrev pub StoredSmallestSays : List ℕ → List ℕ → List ℕ → List ℕ → List ℕ → Said → Type 0
StoredSmallestSays template script bookings before after said =
    Answered (then (then (read_sheet template script) (with_stored bookings)) (with_grid before))
    (Unchanged before after said) (λ s. SmallestFound s (StoredBooked bookings) after said)

-- Which numbers the list tidier refuses with.
--   tidy-list-numbers   60 of the input, or one of the template's, the script's or a stored list's
-- Assumes nothing.
use Prim.Native.Nat.{ℕ}
use mathlib.Core.Path.{◌≡◌}
use mathlib.Core.Logic.{◌⊎◌, inl, inr}
use mathlib.Core.List.{List}
use Rattle.words.specs.Reading.{then}
use Rattle.words.proofs.Readings.{Numbered, then-numbered, mapped-numbered, numbered-map}
use Rattle.input.specs.Input.{read_input}
use Rattle.input.proofs.Inputs.{input-numbers}
use Rattle.sheet.specs.Sheet.{Sheet, read_sheet}
use Rattle.sheet.proofs.Accepted.{SheetNumber, sheet-numbers}
use Rattle.stored.specs.Stored.{read_stored}
use Rattle.stored.specs.Tidied.{tidied}
use Rattle.stored.proofs.StoredLists.{StoredNumber, stored-numbers}
use Rattle.typing.specs.Calls.{with_stored}
use Rattle.tidy_list.specs.TidyList.{tidied_words}

abbrev pub TidyListNumber : ℕ → Type 0
TidyListNumber n = (n ≡ 60) ⊎ (SheetNumber n ⊎ StoredNumber n)

files-numbers : (template script bookings : List ℕ)
    → Numbered TidyListNumber (tidied_words template script bookings)
unfolding tidied_words
files-numbers template script bookings =
    mapped-numbered TidyListNumber (λ (s : Sheet). tidied bookings)
    (then (read_sheet template script) (with_stored bookings))
    (then-numbered TidyListNumber (read_sheet template script) (with_stored bookings)
    (numbered-map SheetNumber TidyListNumber (read_sheet template script) (λ n h. inr (inl h))
    (sheet-numbers template script))
    (λ s. mapped-numbered TidyListNumber (λ count. s) (read_stored s.cards s.shapes bookings)
    (numbered-map StoredNumber TidyListNumber (read_stored s.cards s.shapes bookings) (λ n h. inr (inr h))
    (stored-numbers s.cards s.shapes bookings))))

pub tidy-list-numbers : (input : List ℕ) → Numbered TidyListNumber
    (then (read_input input) (λ i. tidied_words i.template i.script i.bookings))
tidy-list-numbers input =
    then-numbered TidyListNumber (read_input input) (λ i. tidied_words i.template i.script i.bookings)
    (numbered-map (λ n. n ≡ 60) TidyListNumber (read_input input) (λ n h. inl h) (input-numbers input))
    (λ i. files-numbers i.template i.script i.bookings)

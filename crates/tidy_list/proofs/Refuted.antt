-- Wrong programs that the contract of `tidy_list` does not allow, whatever the buffer.
--   idler-refuted     one that writes nothing, for no input at all
--   worked-text       the text for the worked sheet and a stored list that books one pair twice
--   copied-refuted    one that writes that list as it was stored; repeat-refuted: one that keeps the repeat
-- Assumes nothing.
use Prim.Native.Nat.{ℕ}
use mathlib.Core.Path.{◌≡◌, refl, sym, ap, ◌∙◌}
use mathlib.Core.List.{List, [], ◌∷◌}
use native.Mathlib.Omega.{arith}
use lib.ListN.{length}
use Rattle.words.specs.Bytes.{write_words}
use Rattle.words.specs.Said.{values}
use Rattle.words.specs.Reading.{Reading, accepted, turned_down, then, mapped}
use Rattle.words.specs.Writes.{Writes}
use Rattle.words.proofs.Said.{one_value}
use Rattle.input.specs.Input.{Input, input_of, read_input}
use Rattle.input.specs.Writer.{write_input}
use Rattle.input.proofs.RoundTrip.{input-read}
use Rattle.text.specs.Text.{refused_line}
use Rattle.parts.specs.Reading.{read_link, read_run, read_part}
use Rattle.template.specs.Template.{open_at, part_at, read_shape, read_shapes, read_template}
use Rattle.script.specs.Link.{from_at, kind_at, to_at, above, greater}
use Rattle.script.specs.Script.{read_links, read_script}
use Rattle.sheet.specs.Sheet.{Sheet, read_sheet}
use Rattle.bookings.specs.Bookings.{read_each, read_list, repeated, booked_before}
use Rattle.stored.specs.Stored.{stored_card_at, stored_shape_at}
use Rattle.stored.specs.Tidied.{different, firsts, tidied}
use Rattle.typing.specs.Calls.{with_stored}
use Rattle.tidy_list.specs.TidyList.{tidied_words, list_text, tidy_text}

-- ---- an idler
-- A refusal and a list have bytes.
refusal-some : (number place : ℕ) → length (refused_line number place) ≡ 0 → ⊥
unfolding refused_line
refusal-some number place e = omega (arith, e)

list-some : (bookings : List ℕ) → length (write_words (tidied bookings)) ≡ 0 → ⊥
unfolding tidied
list-some bookings e = omega (arith, e)

files-some : (bookings : List ℕ) (r : Reading Sheet) → length (list_text (mapped (λ s. tidied bookings) r)) ≡ 0 → ⊥
unfolding list_text
files-some bookings (accepted s) e = list-some bookings e
files-some bookings (turned_down number place) e = refusal-some number place e

text-some : (r : Reading Input)
    → length (list_text (then r (λ i. tidied_words i.template i.script i.bookings))) ≡ 0 → ⊥
unfolding list_text tidied_words
text-some (accepted i) e =
    files-some i.bookings (then (read_sheet i.template i.script) (with_stored i.bookings)) e
text-some (turned_down number place) e = refusal-some number place e

pub idler-refuted : (input before after : List ℕ) → Writes (tidy_text input) before after (values (0 ∷ [])) → ⊥
idler-refuted input before after w = text-some (read_input input) (sym (one_value w.says))

-- ---- the worked sheet
-- Its template and script, and a list that books card 2 for shape 1 twice.
abbrev files : Input
files = input_of (2 ∷ 2 ∷ 10 ∷ 17 ∷ 2 ∷ 256 ∷ 1 ∷ 1 ∷ 1 ∷ 257 ∷ 0 ∷ 0 ∷ 1 ∷ 1 ∷ 0 ∷ [])
    (3 ∷ 3 ∷ 0 ∷ 0 ∷ 2 ∷ 0 ∷ 1 ∷ 1 ∷ 1 ∷ 0 ∷ 0 ∷ []) (2 ∷ 2 ∷ 1 ∷ 2 ∷ 1 ∷ [])

files-tidied : tidied_words files.template files.script files.bookings ≡ accepted (1 ∷ 0 ∷ 2 ∷ 1 ∷ [])
unfolding tidied_words read_sheet read_template open_at part_at read_shape read_shapes read_part read_run read_link
    read_script
    read_links from_at kind_at to_at above greater read_list read_each repeated booked_before stored_card_at
    stored_shape_at
    different firsts tidied
files-tidied = refl

pub worked-text : tidy_text (write_input files) ≡ write_words (1 ∷ 0 ∷ 2 ∷ 1 ∷ [])
unfolding list_text
worked-text =
    ap (λ (r : Reading Input). list_text (then r (λ i. tidied_words i.template i.script i.bookings)))
    (input-read files (omega arith)) ∙ ap list_text files-tidied

-- It has eight bytes.
worked-size : (before after : List ℕ) (count : ℕ)
    → Writes (tidy_text (write_input files)) before after (values (count ∷ [])) → count ≡ 8
worked-size before after count w = one_value w.says ∙ ap length worked-text

-- The five words of the stored list, and the seven with both bookings.
pub copied-refuted : (before after : List ℕ) → Writes (tidy_text (write_input files)) before after (values (10 ∷
    [])) → ⊥
copied-refuted before after w = let z : ◌≡◌ {A = ℕ} 10 8 = worked-size before after 10 w in omega arith

pub repeat-refuted : (before after : List ℕ) → Writes (tidy_text (write_input files)) before after (values (14 ∷
    [])) → ⊥
repeat-refuted before after w = let z : ◌≡◌ {A = ℕ} 14 8 = worked-size before after 14 w in omega arith

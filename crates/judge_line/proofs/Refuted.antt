-- Wrong programs that the contract of `judge_line` does not allow, whatever the buffer.
--   idler-refuted     one that writes nothing, for no input at all
--   accepts-refuted   one that says `accepted` for an input of 60
--   short-refuted     one that accepts a grid of the worked sheet without its last byte
--   desk-refuted      one that judges for desk 0, whichever is asked for
-- Assumes nothing.
use Prim.Native.Nat.{ℕ}
use mathlib.Core.Path.{◌≡◌, ap, ◌∙◌, sym, subst}
use mathlib.Core.List.{List, [], ◌∷◌, ◌++◌}
use native.Mathlib.Omega.{arith}
use lib.ListN.{get_or}
use Rattle.words.specs.Bytes.{write_words}
use Rattle.words.specs.Said.{Said, values, refusal}
use Rattle.words.specs.Reading.{Reading, turned_down}
use Rattle.input.specs.Input.{Input, input_of, word_at, words_from, section_end, section_words, script_start}
use Rattle.input.specs.Input.{bookings_start}
use Rattle.input.specs.Input.{input_end, read_front}
use Rattle.input.specs.Writer.{input_words}
use Rattle.text.specs.Verdict.{accepted_line, verdict_line}
use Rattle.parts.specs.Reading.{read_link, read_run, read_part}
use Rattle.template.specs.Template.{open_at, part_at, read_shape, read_shapes, read_template}
use Rattle.script.specs.Link.{from_at, kind_at, to_at, above, greater}
use Rattle.script.specs.Script.{read_links, read_script}
use Rattle.sheet.specs.Sheet.{read_sheet}
use Rattle.bookings.specs.Bookings.{desk_at, card_at, shape_at, read_each, read_list, repeated, booked_before}
use Rattle.judge_line.specs.JudgeInput.{JudgeInput, read_grid, read_judge_input}
use Rattle.judge_line.specs.JudgeLine.{InputJudged, Judges}

-- ---- an idler
-- A verdict's first byte is an a or an r.
first_byte : (said : Said) → get_or (verdict_line said) 0 0 ≡ 0 → ⊥
unfolding verdict_line
first_byte (values found) e = omega (arith, e)
first_byte (refusal number place) e = omega (arith, e)

pub idler-refuted : (input : List ℕ) → Judges input [] → ⊥
idler-refuted input x = first_byte x.said (sym (ap (λ (l : List ℕ). get_or l 0 0) x.line))

-- ---- one that accepts
accepted-not-refused : (number : ℕ) (place : List ℕ) → accepted_line ≡ verdict_line (refusal number place) → ⊥
unfolding verdict_line
accepted-not-refused number place e =
    let z : ◌≡◌ {A = ℕ} 97 114 = ap (λ (l : List ℕ). get_or l 0 0) e in omega arith

pub accepts-refuted : (input : List ℕ) (number place : ℕ) → read_judge_input input ≡ turned_down number place
    → Judges input accepted_line → ⊥
accepts-refuted input number place e x =
    let said = subst (λ (r : Reading JudgeInput). InputJudged r x.said) e x.says in
    accepted-not-refused number _ (x.line ∙ ap verdict_line said)

-- ---- the worked sheet
-- Its files, in which radio books card 2 for shape 1.
abbrev files : Input
files = input_of (2 ∷ 2 ∷ 10 ∷ 17 ∷ 2 ∷ 256 ∷ 1 ∷ 1 ∷ 1 ∷ 257 ∷ 0 ∷ 0 ∷ 1 ∷ 1 ∷ 0 ∷ [])
    (3 ∷ 3 ∷ 0 ∷ 0 ∷ 2 ∷ 0 ∷ 1 ∷ 1 ∷ 1 ∷ 0 ∷ 0 ∷ []) (1 ∷ 0 ∷ 2 ∷ 1 ∷ [])

-- The input for them, a desk, and a grid of so many bytes.
abbrev asked : ℕ → ℕ → List ℕ → List ℕ
asked desk size grid = write_words (input_words files ++ (desk ∷ size ∷ [])) ++ grid

-- five bytes in place of six: 40
pub short-refuted : Judges (asked 0 5 (0 ∷ 0 ∷ 0 ∷ 0 ∷ 0 ∷ [])) accepted_line → ⊥
unfolding read_judge_input read_grid read_front section_words section_end script_start bookings_start input_end
    words_from word_at
    read_sheet read_template open_at part_at read_shape read_shapes read_part read_run read_link read_script
    read_links from_at
    kind_at to_at above greater desk_at card_at shape_at read_list read_each repeated booked_before
short-refuted x = accepted-not-refused 40 _ (x.line ∙ ap verdict_line x.says)

-- desk 2: 66
pub desk-refuted : Judges (asked 2 6 (0 ∷ 0 ∷ 0 ∷ 0 ∷ 0 ∷ 1 ∷ [])) accepted_line → ⊥
unfolding read_judge_input read_grid read_front section_words section_end script_start bookings_start input_end
    words_from word_at
    read_sheet read_template open_at part_at read_shape read_shapes read_part read_run read_link read_script
    read_links from_at
    kind_at to_at above greater desk_at card_at shape_at read_list read_each repeated booked_before
desk-refuted x = accepted-not-refused 66 _ (x.line ∙ ap verdict_line x.says)

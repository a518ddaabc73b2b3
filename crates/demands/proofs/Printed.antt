-- The printer on the worked sheet, from input bytes to output bytes.
--   worked-prints, unmet-prints, both-unmet-prints   the right text is what the contract asks for
--   worked-only, unmet-only                and no other text is
--   parts-swapped, part-left-out           one desk's part for the other's; after a 50 of radio's none of television's
--   numbers-swapped                        pairs struck and cards with no shape exchanged in the first line
--   largest-under-smallest                 the largest typing's cards under television's number of pairs
--   refused-anyhow                         a refusal of these files
-- Assumes nothing.
use Prim.Native.Nat.{ℕ}
use mathlib.Core.Path.{◌≡◌, refl, sym, ap, ap₂, ◌∙◌, subst}
use mathlib.Core.List.{List, [], ◌∷◌, ◌++◌}
use native.Mathlib.Omega.{arith}
use lib.ListN.{length, get_or}
use Rattle.words.specs.Reading.{accepted}
use Rattle.input.specs.Input.{input_of, read_front, read_input, word_at, words_from, section_end, section_words}
use Rattle.input.specs.Input.{script_start, bookings_start, input_end}
use Rattle.typing.specs.Calls.{outcome_said}
use Rattle.typing.specs.Demand3.{Outcome, pairs, not_met}
use Rattle.typing.specs.Desks.{DesksFound}
use Rattle.text.specs.Text.{digits_by, digits, two_numbers, largest_line, smallest_line, not_met_line, refused_line}
use Rattle.text.specs.Text.{shapes_text, card_line}
use Rattle.text.specs.Text.{card_lines}
use Rattle.board.specs.Grid.{on}
use Rattle.sheet_text.specs.Printed.{largest_text, smallest_text, SheetPrinted}
use Rattle.sheet_text.proofs.Unique.{outcome-said-unique}
use Rattle.printer.specs.Printed.{Prints}
use Rattle.printer.proofs.Unique.{prints-unique}
use Rattle.demands.specs.Worked.{template, script, met_bookings, unmet_bookings, both_unmet, last_shape, no_shapes}
use Rattle.demands.specs.Worked.{largest_answer}
use Rattle.demands.specs.Printed.{worked_input, unmet_input, both_unmet_input, worked_text, unmet_text}
use Rattle.demands.specs.Printed.{both_unmet_text}
use Rattle.demands.specs.Printed.{three_cards, largest_part, pair_part, none_part, no_part}
use Rattle.demands.proofs.Worked.{worked, smallest-found, not-met-found, none_found, together, all-inside}
use Rattle.demands.proofs.Worked.{one-just, one-other, two-radio, two-television, met-listed, unmet-listed}
use Rattle.demands.proofs.Worked.{both-unmet-listed}

-- The three files are read from the bytes.
worked-input : read_input worked_input ≡ accepted (input_of template script met_bookings)
unfolding read_front read_input section_words section_end script_start bookings_start input_end words_from word_at
worked-input = refl

both-unmet-input : read_input both_unmet_input ≡ accepted (input_of template script both_unmet)
unfolding read_front read_input section_words section_end script_start bookings_start input_end words_from word_at
both-unmet-input = refl

unmet-input : read_input unmet_input ≡ accepted (input_of template script unmet_bookings)
unfolding read_front read_input section_words section_end script_start bookings_start input_end words_from word_at
unmet-input = refl

-- All typings of the sheet, printed with their numbers.
printed : (bookings radio television : List ℕ) (o q : Outcome)
    → DesksFound worked bookings (record { radio = radio; television = television; large = last_shape })
    (record { largest = largest_answer; radio = outcome_said o; television = outcome_said q })
    → SheetPrinted worked bookings
    (largest_text 4 5 2 last_shape 2 3 ++ (smallest_text worked radio o ++ smallest_text worked television q))
printed bookings radio television o q found =
    let large = found.radio.largest in
    let said = large.says in
    let rounds : large.rounds ≡ 4 = cc in
    let struck : large.struck ≡ 5 = cc in
    let bare : large.bare ≡ 2 = cc in
    let one = outcome-said-unique o found.radio.smallest.outcome found.radio.smallest.says in
    let other = outcome-said-unique q found.television.smallest.outcome found.television.smallest.says in
    record {
      grids = record { radio = radio; television = television; large = last_shape };
      said = record { largest = largest_answer; radio = outcome_said o; television = outcome_said q };
      found = found;
      prints = ap₂ ◌++◌
          (sym (ap₂ (λ (r s : ℕ). largest_text r s large.bare last_shape 2 3) rounds struck
          ∙ ap (λ (b : ℕ). largest_text 4 5 b last_shape 2 3) bare))
          (ap₂ ◌++◌ (ap (smallest_text worked radio) one) (ap (smallest_text worked television) other));
    }

-- The parts of the texts, letter by letter.
largest-part : largest_text 4 5 2 last_shape 2 3 ≡ largest_part
unfolding largest_line two_numbers card_lines card_line shapes_text digits digits_by on
largest-part = refl

pair-part : smallest_text worked last_shape (pairs 1) ≡ pair_part
unfolding smallest_line card_lines card_line shapes_text digits digits_by on
pair-part = refl

none-part : smallest_text worked no_shapes (pairs 0) ≡ none_part
unfolding smallest_line card_lines card_line shapes_text digits digits_by on
none-part = refl

no-part : smallest_text worked no_shapes (not_met 0 1) ≡ no_part
unfolding two_numbers not_met_line digits digits_by
no-part = refl

-- A text of three parts that are the right ones.
parts : (bookings radio television : List ℕ) (o q : Outcome) (one other : List ℕ)
    → smallest_text worked radio o ≡ one → smallest_text worked television q ≡ other
    → DesksFound worked bookings (record { radio = radio; television = television; large = last_shape })
    (record { largest = largest_answer; radio = outcome_said o; television = outcome_said q })
    → SheetPrinted worked bookings (largest_part ++ (one ++ other))
parts bookings radio television o q one other e f found =
    subst (SheetPrinted worked bookings) (ap₂ ◌++◌ largest-part (ap₂ ◌++◌ e f))
    (printed bookings radio television o q found)

-- The right text is what the printer's contract asks for,
pub worked-prints : Prints worked_input worked_text
worked-prints =
    rw (worked-input, met-listed)
    (parts met_bookings last_shape no_shapes (pairs 1) (pairs 0) pair_part none_part pair-part none-part
    (together (all-inside met_bookings met-listed) (smallest-found (one-just 0 2 1))
    (none_found (one-other 0 2 1 1 (λ e. absurd (omega (arith, e)))))))

pub unmet-prints : Prints unmet_input unmet_text
unmet-prints =
    rw (unmet-input, unmet-listed)
    (parts unmet_bookings no_shapes no_shapes (not_met 0 1) (pairs 0) no_part none_part no-part none-part
    (together (all-inside unmet_bookings unmet-listed) (not-met-found (one-just 0 0 0))
    (none_found (one-other 0 0 0 1 (λ e. absurd (omega (arith, e)))))))

pub both-unmet-prints : Prints both_unmet_input both_unmet_text
both-unmet-prints =
    rw (both-unmet-input, both-unmet-listed)
    (parts both_unmet no_shapes no_shapes (not_met 0 1) (not_met 0 1) no_part no_part no-part no-part
    (together (all-inside both_unmet both-unmet-listed) (not-met-found (two-radio 0 0 0 0))
    (not-met-found (two-television 0 0 0 0))))

-- and no other text is.
pub worked-only : (text : List ℕ) → Prints worked_input text → text ≡ worked_text
worked-only text h = prints-unique worked_input h worked-prints

pub unmet-only : (text : List ℕ) → Prints unmet_input text → text ≡ unmet_text
unmet-only text h = prints-unique unmet_input h unmet-prints

-- The parts of the desks the other way round.
pub parts-swapped : Prints worked_input (largest_part ++ (none_part ++ pair_part)) → ⊥
parts-swapped h =
    let z : ◌≡◌ {A = ℕ} 48 49 = ap (λ (l : List ℕ). get_or l 49 0) (worked-only _ h) in omega arith

-- No part of television's after the line of radio's 50.
pub part-left-out : Prints unmet_input (largest_part ++ no_part) → ⊥
part-left-out h =
    let z : ◌≡◌ {A = ℕ} (length (largest_part ++ no_part)) (length unmet_text) = ap length (unmet-only _ h) in
    omega arith

-- "largest 4 2 5", whatever comes after it.
pub numbers-swapped : (rest : List ℕ) → Prints worked_input
    ((108 ∷ 97 ∷ 114 ∷ 103 ∷ 101 ∷ 115 ∷ 116 ∷ 32 ∷ 52 ∷ 32 ∷ 50 ∷ 32 ∷ 53 ∷ 10 ∷ []) ++ rest) → ⊥
numbers-swapped rest h =
    let z : ◌≡◌ {A = ℕ} 50 53 = ap (λ (l : List ℕ). get_or l 10 0) (worked-only _ h) in omega arith

-- "smallest 0" and then the cards of the largest typing, of which one has a shape.
pub largest-under-smallest : Prints worked_input
    (largest_part ++ (pair_part ++ ((115 ∷ 109 ∷ 97 ∷ 108 ∷ 108 ∷ 101 ∷ 115 ∷ 116 ∷ 32 ∷ 48 ∷ 10 ∷ []) ++
    three_cards)))
    → ⊥
largest-under-smallest h =
    let z : ◌≡◌ {A = ℕ} 32 10 = ap (λ (l : List ℕ). get_or l 111 0) (worked-only _ h) in omega arith

-- Any refusal, as of a template that is read from another word on.
pub refused-anyhow : (number place : ℕ) → Prints worked_input (refused_line number place) → ⊥
unfolding refused_line
refused-anyhow number place h =
    let z : ◌≡◌ {A = ℕ} 114 108 = ap (λ (l : List ℕ). get_or l 0 0) (worked-only _ h) in omega arith

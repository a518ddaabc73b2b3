-- Every refusal happens.
--   every-number-happens   each row of the table gets its number at its place; 50, 62 and 63 are the worked sheet's
--   other-faults-happen    and so does each row of the further faults
--   all_listed             the table has the numbers of docs/FORMAT.md, no more and no less
-- Assumes nothing.
use mathlib.Core.Path.{◌≡◌, refl}
use mathlib.Core.List.{[], ◌∷◌}
use native.Mathlib.Omega.{arith}
use Rattle.words.specs.Said.{refusal}
use Rattle.parts.specs.Reading.{read_link, read_run, read_part}
use Rattle.template.specs.Template.{open_at, part_at, read_shape, read_shapes, read_template, template_says}
use Rattle.script.specs.Link.{from_at, kind_at, to_at, above, greater}
use Rattle.script.specs.Script.{read_links, read_script, script_says}
use Rattle.counts.specs.Fit.{first_over, fit_question}
use Rattle.sheet.specs.Sheet.{read_sheet}
use Rattle.bookings.specs.Bookings.{desk_at, card_at, shape_at, read_each, read_list, repeated, booked_before}
use Rattle.stored.specs.Stored.{stored_card_at, stored_shape_at}
use Rattle.input.specs.Input.{word_at, section_end, script_start, bookings_start, input_end, read_front, read_input}
use Rattle.demands.specs.Worked.{last_shape}
use Rattle.typing.specs.Judge.{over, JudgeSays}
use Rattle.demands.specs.Refusals.{plain, alone, AllGet, refusals, others, listed, numbers_of}
use Rattle.demands.proofs.Worked.{worked-not-met}
use Rattle.demands.proofs.Judged.{◌&◌, unmet-sample, unheld-sample}

pub all_listed : numbers_of refusals ≡ listed
all_listed = refl

-- The byte of one card and one shape is 2.
over-alone : JudgeSays plain alone (0 ∷ []) 0 (2 ∷ []) (refusal 61 (0 ∷ []))
unfolding read_sheet read_template open_at part_at read_shape read_shapes read_part read_run read_link read_script
    read_links
    from_at kind_at to_at above greater read_list read_each repeated booked_before
over-alone = record {
  verdict = over 0;
  says = refl;
  right = record { inside = omega arith; over-one = omega arith; first = λ q l. absurd (omega arith) };
}

pub every-number-happens : AllGet refusals
unfolding read_template open_at part_at read_shape read_shapes read_part read_run read_link template_says
    read_script read_links
    from_at kind_at to_at above greater script_says first_over fit_question read_sheet desk_at card_at shape_at
    read_each read_list
    repeated booked_before stored_card_at stored_shape_at word_at section_end script_start bookings_start input_end
    read_front
    read_input
every-number-happens =
    refl & refl & refl & refl & refl & refl & refl & refl & refl & refl & refl & refl & refl & refl & refl &
    refl & refl & refl & (refl, refl) & (refl, refl) & (refl, refl) & (refl, refl) & (refl, refl) & refl & refl
    & refl & worked-not-met last_shape refl & refl & over-alone & unmet-sample & unheld-sample
    & refl & (refl, refl) & (refl, refl) & tt

pub other-faults-happen : AllGet others
unfolding read_template open_at part_at read_shape read_shapes read_part read_run read_link template_says
    read_script read_links
    from_at kind_at to_at above greater script_says first_over fit_question read_sheet desk_at card_at shape_at
    read_each read_list
    repeated booked_before stored_card_at stored_shape_at word_at section_end script_start bookings_start input_end
    read_front
    read_input
other-faults-happen =
    refl & refl & refl & refl & refl & refl & refl & refl & refl & refl & refl & refl & refl & refl & refl & refl &
    refl & refl & refl & refl & refl & refl & refl & refl & refl & refl & refl & refl & refl & refl & refl & refl &
    refl & (refl, refl) & (refl, refl) & refl & (refl, refl) & refl & refl & refl & refl & refl & refl & refl & refl
    & (refl, refl) & refl & tt

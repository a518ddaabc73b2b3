-- `input::find_front` tells what reading the front of an input gives: where a section is not found the input is short.
-- Assumes nothing.
use mathlib.Core.Path.{refl, sym, ap, ◌∙◌}
use native.Mathlib.Omega.{arith}
use Rattle.words.specs.Reading.{accepted}
use Rattle.input.specs.Input.{section_end, script_start, bookings_start, input_end}
use Rattle.input.proofs.Inputs.{found-end, found-words, script-at, bookings-at, same-input}
use Rattle.input.proofs.Inputs.{front-too-long, front-short, front-sections}
use Rattle.input.proofs.find_front.Goals as goal

pub returns-then-most-bytes-clause-reads : goal.returns-then-most-bytes-clause-reads
returns-then-most-bytes-clause-reads c = front-too-long _ _ (omega arith)

pub returns-in_err-template-clause-reads : goal.returns-in_err-template-clause-reads
unfolding section_end script_start bookings_start input_end
returns-in_err-template-clause-reads c =
    rw c.from_residual.ensures (front-short _ _ (omega (arith, c.in_err-template.ensures)))

pub returns-in_err-script-clause-reads : goal.returns-in_err-script-clause-reads
unfolding section_end bookings_start input_end
returns-in_err-script-clause-reads c =
    let script = script-at c.in_ok-template.ensures c.end.ensures refl in
    rw c.from_residual-in_err-script.ensures
    (front-short _ _ (omega (arith, c.in_err-script.ensures, ap (section_end c.args.bytes.now) script)))

pub returns-in_err-bookings-clause-reads : goal.returns-in_err-bookings-clause-reads
unfolding input_end
returns-in_err-bookings-clause-reads c =
    let script = script-at c.in_ok-template.ensures c.end.ensures refl in
    let bookings = bookings-at c.in_ok-script.ensures c.end-2.ensures script in
    rw c.from_residual-in_err-bookings.ensures
    (front-short _ _ (omega (arith, c.in_err-bookings.ensures, ap (section_end c.args.bytes.now) bookings)))

pub returns-clause-reads : goal.returns-clause-reads
unfolding input_end
returns-clause-reads c =
    let template = c.in_ok-template in
    let second = c.in_ok-script in
    let third = c.in_ok-bookings in
    let script = script-at template.ensures c.end.ensures refl in
    let bookings = bookings-at second.ensures c.end-2.ensures script in
    let end = found-end third.bookings third.ensures bookings in
    front-sections _ _ (omega arith) (omega (arith, third.ensures.ends, end))
    ∙ ap accepted (sym (same-input (found-words _ template.ensures refl) (found-words _ second.ensures script)
    (found-words _ third.ensures bookings)))

pub returns-clause-inside : goal.returns-clause-inside
unfolding input_end
returns-clause-inside c =
    let template = c.in_ok-template.ensures in
    let second = c.in_ok-script.ensures in
    let third = c.in_ok-bookings.ensures in
    let script = script-at template c.end.ensures refl in
    let bookings = bookings-at second c.end-2.ensures script in record {
      few = omega arith;
      within = record {
        template = record { ends = template.ends; even = omega (arith, template.starts) };
        script = record { ends = second.ends; even = omega (arith, template.starts, second.starts) };
        bookings = record { ends = third.ends; even = omega (arith, template.starts, second.starts, third.starts) };
      };
      end = found-end c.in_ok-bookings.bookings third bookings;
    }

-- What the printer writes for an input.
--   refused_end        where a refusal ends
--   refused-written    template, script or bookings are refused
--   written-by         a text for the input at the front of the buffer, which has so many bytes
-- Assumes nothing.
use mathlib.Core.Path.{◌≡◌, refl, sym, subst}
use mathlib.Core.List.{List}
use Prim.Native.Nat.{ℕ, ◌+◌, ◌≤◌}
use native.Mathlib.Omega.{arith}
use lib.ListN.{length}
use Rattle.words.specs.Reading.{Reading, turned_down}
use Rattle.words.specs.Wrote.{Wrote}
use Rattle.text.specs.Text.{refused_line}
use Rattle.text.specs.Output.{Outputs}
use Rattle.text.specs.Steps.{Counted}
use Rattle.text.proofs.Lines.{refused-bound}
use Rattle.text.proofs.Output.{outputs-wrote, wrote-counted}
use Rattle.input.specs.Input.{Input, read_input}
use Rattle.sheet.specs.Sheet.{Sheet}
use Rattle.typing.specs.Calls.{listed_reading}
use Rattle.sheet_text.specs.Printed.{PrintsSheet}
use Rattle.sheet_text.specs.Steps.{SheetWritten}
use Rattle.printer.specs.Printed.{PrintsInput, Prints}

-- Where a refusal ends.
pub refused_end : (number place : ℕ) → 0 + length (refused_line number place) ≤ 50
refused_end number place = omega (arith, refused-bound number place)

-- Template, script or bookings are refused.
pub refused-written : {template script bookings before after : List ℕ} {number place next : ℕ}
    → listed_reading template script bookings ≡ turned_down number place
    → Wrote before 0 (refused_line number place) after next → SheetWritten template script bookings before after next
refused-written {bookings = bookings} {number = number} {place = place} e w = record {
  text = refused_line number place;
  prints = subst (λ (r : Reading Sheet). PrintsSheet r bookings (refused_line number place)) (sym e) refl;
  wrote = w;
}

-- What is written at the front of the buffer is the text for the input, and the rest is as it was.
pub written-by : (input : List ℕ) {before after text : List ℕ} {next : ℕ} (r : Reading Input) → read_input input ≡ r
    → PrintsInput r text → Wrote before 0 text after next
    → Outputs (Prints input) before after next × Counted after next
written-by input r e p w = (outputs-wrote (rw e p) w, wrote-counted w)

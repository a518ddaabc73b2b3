-- The printer has no choice: for one input there is one text, and of one buffer one is left.
--   prints-unique          one text for an input
--   written-unique         one buffer and one number of bytes
-- Assumes nothing.
use mathlib.Core.Path.{◌≡◌, refl, sym, ◌∙◌}
use mathlib.Core.List.{List}
use Prim.Native.Nat.{ℕ}
use Rattle.words.specs.Reading.{Reading, accepted, turned_down}
use Rattle.input.specs.Input.{Input, read_input}
use Rattle.text.specs.Output.{Outputs}
use Rattle.text.proofs.Output.{outputs-unique}
use Rattle.typing.specs.Calls.{listed_reading}
use Rattle.sheet_text.proofs.Unique.{sheet-unique}
use Rattle.printer.specs.Printed.{PrintsInput, Prints}

input-unique : {a b : List ℕ} (r : Reading Input) → PrintsInput r a → PrintsInput r b → a ≡ b
input-unique (turned_down number place) x y = x ∙ sym y
input-unique (accepted i) x y =
    sheet-unique i.template i.script i.bookings (listed_reading i.template i.script i.bookings) refl
    x y

pub prints-unique : (input : List ℕ) {a b : List ℕ} → Prints input a → Prints input b → a ≡ b
prints-unique input x y = input-unique (read_input input) x y

pub written-unique : (input : List ℕ) {before after other : List ℕ} {next end : ℕ}
    → Outputs (Prints input) before after next
    → Outputs (Prints input) before other end → (after ≡ other) × (next ≡ end)
written-unique input x y = outputs-unique (λ a b. prints-unique input) x y

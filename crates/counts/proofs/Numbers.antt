-- Which numbers "Fit counts" refuses with: a template's, and 41 to 43.
-- FitNumber     a number of its refusals
-- fit-numbers   a question that is refused is refused with one of them
-- Assumes nothing.
use mathlib.Core.Bool.{not}
use mathlib.Core.List.{List}
use mathlib.Core.Logic.{◌⊎◌, inl, inr}
use Prim.Native.Nat.{ℕ, ◌*◌, ◌≤◌}
use native.Mathlib.Omega.{arith}
use lib.ListN.{length}
use lib.Dec.{ltb, leb, eqb}
use Rattle.words.proofs.Readings.{Numbered, refuse-numbered, then-numbered, numbered-map}
use Rattle.template.specs.Template.{Template, read_template}
use Rattle.template.proofs.Numbers.{TemplateNumber, template-numbers}
use Rattle.counts.specs.Fit.{first_over, asked, fit_question}

-- A number of the refusals of "Fit counts".
abbrev pub FitNumber : ℕ → Type 0
FitNumber n = TemplateNumber n ⊎ ((41 ≤ n) × (n ≤ 43))

asked-numbers :
    (template : List ℕ) (shape : ℕ) (counts : List ℕ) (t : Template) →
    Numbered FitNumber (asked template shape counts t)
asked-numbers template shape counts t =
    refuse-numbered FitNumber 42 0 (leb t.shapes shape) _ (inr (omega arith))
    (refuse-numbered FitNumber 41 0 (not (eqb (length counts) (2 * t.kinds))) _ (inr (omega arith))
    (refuse-numbered FitNumber 43 (first_over counts) (ltb (first_over counts) (length counts)) _ (inr (omega
    arith)) tt))

-- A question that is refused is refused with one of its numbers.
pub fit-numbers :
    (template : List ℕ) (shape : ℕ) (counts : List ℕ) → Numbered FitNumber (fit_question template shape counts)
unfolding fit_question
fit-numbers template shape counts =
    then-numbered FitNumber (read_template template) (asked template shape counts)
    (numbered-map TemplateNumber FitNumber (read_template template) (λ n h. inl h) (template-numbers template))
    (asked-numbers template shape counts)

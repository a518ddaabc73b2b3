-- What the contract of `read_template` leaves to no choice, and what it tells of the reading.
-- read-template-unique     two answers that the contract allows for the same words are equal
-- template-read            the template that was read, and that the counts which are said are its own
-- template-turned          the refusal, from what is said
-- Assumes nothing.
use mathlib.Core.Path.{◌≡◌, sym, ap, ◌∙◌}
use mathlib.Core.List.{List, [], ◌∷◌}
use Prim.Native.Nat.{ℕ}
use Rattle.words.specs.Said.{values, refusal}
use Rattle.words.specs.Reading.{accepted, turned_down}
use Rattle.words.proofs.Readings.{said-accepted, said-turned}
use Rattle.words.specs.declared.refusal.Refusal.{Refusal}
use Rattle.words.proofs.Refused.{said-by-unique}
use Rattle.words.proofs.Said.{values-refusal}
use Rattle.parts.specs.declared.Sizes.{Sizes}
use Rattle.std.specs.Prelude.{Result}
use Rattle.template.specs.Answer.{template_said}
use Rattle.template.specs.Template.{Template, read_template, template_values, template_says}

-- The counts tell the sizes.
sizes-unique : (a b : Sizes) → values (a.kinds ∷ a.shapes ∷ []) ≡ values (b.kinds ∷ b.shapes ∷ []) → a ≡ b
sizes-unique a b e =
    let p : a.kinds ≡ b.kinds = cc in
    let q : a.shapes ≡ b.shapes = cc in
    ap (λ (n : ℕ). record { kinds = n; shapes = a.shapes }) p ∙ ap (λ (n : ℕ). record { kinds = b.kinds; shapes = n }) q

-- The contract leaves no choice.
pub read-template-unique :
    (words : List ℕ) (a b : Result Sizes Refusal) → template_said a ≡ template_says words →
    template_said b ≡ template_says words → a ≡ b
read-template-unique words a b e f =
    said-by-unique _ sizes-unique (λ s r q. values-refusal q) a b (e ∙ sym f)

-- The template that was read, and that the counts which are said are its own.
pub template-read :
    (words : List ℕ) (kinds shapes : ℕ) → values (kinds ∷ shapes ∷ []) ≡ template_says words →
    (t : Template) × (read_template words ≡ accepted t) × (kinds ≡ t.kinds) × (shapes ≡ t.shapes)
unfolding template_says
template-read words kinds shapes e =
    let (t, read, q) = said-accepted template_values (read_template words) (kinds ∷ shapes ∷ []) e in
    (t, read, cc, cc)

-- The refusal, from what is said.
pub template-turned :
    (words : List ℕ) (number place : ℕ) → refusal number (place ∷ []) ≡ template_says words →
    read_template words ≡ turned_down number place
unfolding template_says
template-turned words number place e = said-turned template_values (read_template words) number place e

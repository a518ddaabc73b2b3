-- What the answer to fitting counts says (docs/FORMAT.md, "Operations").
-- Assumes nothing.
use Rattle.std.specs.Prelude.{ℕ, Bool, true, false, [], ◌∷◌, Result}
use Rattle.words.specs.Said.{Said, values}
use Rattle.words.specs.Refused.{said_by}
use Rattle.words.specs.declared.refusal.Refusal.{Refusal}

-- Yes is 1, and no is 0.
abbrev pub fit_value : Bool → ℕ
fit_value true = 1
fit_value false = 0

-- Whether the counts fit; or a template's number and place, or 41 to 43 with theirs.
abbrev pub fit_said : Result Bool Refusal → Said
fit_said = said_by (λ fits. values (fit_value fits ∷ []))

-- What the answer to reading a template says (docs/FORMAT.md, "Operations").
-- Assumes nothing.
use Rattle.words.specs.Said.{Said, values}
use Rattle.words.specs.Refused.{said_by}
use Rattle.words.specs.declared.refusal.Refusal.{Refusal}
use Rattle.std.specs.Prelude.{[], ◌∷◌, Result}
use Rattle.parts.specs.declared.Sizes.{Sizes}

-- The counts of kinds and of shapes; or a number, 1 to 12 or 64, and the index of the word at fault.
abbrev pub template_said : Result Sizes Refusal → Said
template_said = said_by (λ sizes. values (sizes.kinds ∷ sizes.shapes ∷ []))

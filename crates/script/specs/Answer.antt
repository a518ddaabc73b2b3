-- What the answer to reading a script says (docs/FORMAT.md, "Operations").
-- Assumes nothing.
use Rattle.std.specs.Prelude.{[], ◌∷◌, Result}
use Rattle.words.specs.Said.{Said, values}
use Rattle.words.specs.Refused.{said_by}
use Rattle.words.specs.declared.refusal.Refusal.{Refusal}
use Rattle.script.specs.declared.ScriptSizes.{ScriptSizes}

-- The counts of cards and of links; or a template's number and place, or 20 to 25 with theirs.
abbrev pub script_said : Result ScriptSizes Refusal → Said
script_said = said_by (λ sizes. values (sizes.cards ∷ sizes.links ∷ []))

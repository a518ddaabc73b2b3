-- What is at a limit is read: the accepting side of the boundaries whose other side is in the table of refusals.
--   templates-read   templates at each limit
--   scripts-read     1,024 cards; two links that differ only in the card that they lead to
--   limit-taken      a count of 8,192, which is not refused: limit-refused
-- Assumes nothing.
use Prim.Native.Nat.{ℕ}
use mathlib.Core.Path.{◌≡◌, refl}
use mathlib.Core.Logic.{inl}
use mathlib.Core.Bool.{false}
use mathlib.Core.List.{List, [], ◌∷◌}
use native.Mathlib.Omega.{arith}
use Rattle.words.specs.Said.{values, refusal}
use Rattle.words.proofs.Said.{values-refusal}
use Rattle.bags.specs.Part.{Part}
use Rattle.bags.specs.Look.{listed}
use Rattle.bags.proofs.Decide.{list-decided}
use Rattle.parts.specs.Reading.{read_link, read_run, read_part}
use Rattle.template.specs.Template.{open_at, part_at, read_shape, read_shapes, shape_place, read_template}
use Rattle.template.specs.Template.{template_says}
use Rattle.script.specs.Link.{from_at, kind_at, to_at, above, greater}
use Rattle.script.specs.Script.{read_links, read_script, script_says}
use Rattle.counts.specs.Fit.{first_over, fit_question, FitSays}
use Rattle.counts.proofs.Fitting.{fit-one-answer}
use Rattle.demands.specs.Refusals.{plain}
use Rattle.demands.specs.Limits.{AllRead, taken}
use Rattle.demands.proofs.Judged.{◌&◌}

pub templates-read : AllRead taken
unfolding read_template open_at part_at read_shape read_shapes read_part read_run read_link template_says
templates-read = refl & refl & refl & refl & refl & refl & refl & refl & refl & refl & refl & tt

pub scripts-read : (script_says plain (1024 ∷ 0 ∷ []) ≡ values (1024 ∷ 0 ∷ []))
    × (script_says plain (2 ∷ 2 ∷ 0 ∷ 0 ∷ 0 ∷ 0 ∷ 0 ∷ 1 ∷ []) ≡ values (2 ∷ 2 ∷ []))
unfolding read_template open_at part_at read_shape read_shapes read_part read_run read_link read_script read_links
    from_at kind_at to_at above greater script_says
scripts-read = (refl, refl)

-- Incoming links that a shape does not name are ignored, so the answer is yes.
pub limit-taken : FitSays plain 0 (0 ∷ 8192 ∷ []) (values (1 ∷ []))
unfolding fit_question read_template open_at part_at read_shape read_shapes read_part shape_place first_over listed
limit-taken =
    inl ((list-decided 1 false Part.nothing 1 (0 ∷ 8192 ∷ []) (omega arith) (omega arith) tt tt).1 refl, refl)

pub limit-refused : (number : ℕ) (place : List ℕ) → FitSays plain 0 (0 ∷ 8192 ∷ []) (refusal number place) → ⊥
limit-refused number place x = values-refusal (fit-one-answer plain 0 (0 ∷ 8192 ∷ []) _ _ limit-taken x)

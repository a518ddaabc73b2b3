-- Open shapes (docs/FORMAT.md, "Templates" and "Bags and counts"): samples, and wrong answers that no contract allows.
--   tolerant                     one open shape that asks for one link of kind 0, in a template of two kinds
--   tolerant-yes, tolerant-no    kind 1 may count anything, kind 0 may not
--   named-ignored                "yes" to two links of kind 0
--   others-counted               "no" to one link of kind 0, for the links of kind 1
--   open-refused                 a reader that refuses each open shape
--   deep-refused                 a reader for which the word 18 takes a level of depth
-- Assumes nothing.
use Prim.Native.Nat.{ℕ}
use mathlib.Core.Path.{◌≡◌, refl}
use mathlib.Core.Logic.{inl, inr}
use mathlib.Core.Bool.{true}
use mathlib.Core.List.{List, [], ◌∷◌}
use native.Mathlib.Omega.{arith}
use Rattle.words.specs.Said.{values, refusal}
use Rattle.words.proofs.Bools.{never_both}
use Rattle.bags.specs.Part.{Part, at_most}
use Rattle.bags.specs.Look.{listed}
use Rattle.bags.proofs.Decide.{list-decided}
use Rattle.parts.specs.Reading.{read_link, read_part}
use Rattle.template.specs.Template.{open_at, part_at, read_shape, read_shapes, shape_place, read_template}
use Rattle.template.specs.Template.{template_says}
use Rattle.counts.specs.Fit.{first_over, fit_question, FitSays}
use Rattle.counts.proofs.Fitting.{fit-one-answer}

-- An open shape: one link of kind 0 to a card of the shape.
abbrev pub tolerant : List ℕ
tolerant = 2 ∷ 1 ∷ 5 ∷ 18 ∷ 256 ∷ 0 ∷ 1 ∷ 1 ∷ []

-- Its part.
abbrev one : Part
one = Part.link 0 0 1 (at_most 1)

-- One link of kind 0 and seven of kind 1 fit, two and seven do not.
pub tolerant-yes : FitSays tolerant 0 (1 ∷ 7 ∷ 0 ∷ 0 ∷ []) (values (1 ∷ []))
unfolding fit_question read_template open_at part_at read_shape read_shapes read_part read_link shape_place
    first_over listed
tolerant-yes =
    inl ((list-decided 1 true one 2 (1 ∷ 7 ∷ 0 ∷ 0 ∷ []) (omega arith) (omega arith) tt (omega arith)).1 refl, refl)

pub tolerant-no : FitSays tolerant 0 (2 ∷ 7 ∷ 0 ∷ 0 ∷ []) (values (0 ∷ []))
unfolding fit_question read_template open_at part_at read_shape read_shapes read_part read_link shape_place
    first_over listed
tolerant-no =
    let decided = list-decided 1 true one 2 (2 ∷ 7 ∷ 0 ∷ 0 ∷ []) (omega arith) (omega arith) tt (omega arith) in
    inr (λ f. never_both (decided.0 f) refl, refl)

-- ---- wrong answers
pub named-ignored : FitSays tolerant 0 (2 ∷ 7 ∷ 0 ∷ 0 ∷ []) (values (1 ∷ [])) → ⊥
named-ignored x =
    let e : values (1 ∷ []) ≡ values (0 ∷ []) = fit-one-answer tolerant 0 (2 ∷ 7 ∷ 0 ∷ 0 ∷ []) _ _ x tolerant-no in
    let z : ◌≡◌ {A = ℕ} 1 0 = cc in omega arith

pub others-counted : FitSays tolerant 0 (1 ∷ 7 ∷ 0 ∷ 0 ∷ []) (values (0 ∷ [])) → ⊥
others-counted x =
    let e : values (0 ∷ []) ≡ values (1 ∷ []) = fit-one-answer tolerant 0 (1 ∷ 7 ∷ 0 ∷ 0 ∷ []) _ _ x tolerant-yes in
    let z : ◌≡◌ {A = ℕ} 1 0 = cc in omega arith

pub open-refused : (number : ℕ) (place : List ℕ) → refusal number place ≡ template_says tolerant → ⊥
unfolding template_says read_template open_at part_at read_shape read_shapes read_part read_link
open-refused number place e = let z : ◌≡◌ {A = ℕ} 0 1 = cc in omega arith

-- Nothing inside eleven stars stands at depth 12.
pub deep-refused : (number : ℕ) (place : List ℕ)
    → refusal number place
    ≡ template_says (1 ∷ 1 ∷ 13 ∷ 18 ∷ 1 ∷ 1 ∷ 1 ∷ 1 ∷ 1 ∷ 1 ∷ 1 ∷ 1 ∷ 1 ∷ 1 ∷ 1 ∷ 0 ∷ []) → ⊥
unfolding template_says read_template open_at part_at read_shape read_shapes read_part
deep-refused number place e = let z : ◌≡◌ {A = ℕ} 0 1 = cc in omega arith

-- Writing a template: the words of its shapes, and which templates are well-formed (docs/FORMAT.md, "Templates"). Used
-- only by theorems; no part of a promise of a call.
-- write_shape, write_template   the words of a shape that is open or closed, and of a template
-- WellFormed                  what a template must be
-- Assumes nothing.
use Rattle.std.specs.Prelude.{ℕ, suc, ◌≤◌, ◌<◌, ◌≡◌, Bool, true, false, List, [], ◌∷◌, ◌++◌, length, get_or}
use Rattle.words.specs.Limits.{max_kinds, max_shapes, max_template}
use Rattle.bags.specs.Part.{Part}
use Rattle.parts.specs.Writer.{write_part, PartFormed}

-- A shape's words: 18 if it is open, and then those of its part.
abbrev pub write_shape : Bool → Part → List ℕ
write_shape true p = 18 ∷ write_part p
write_shape false p = write_part p

-- The shapes one after the other, each with the count of its words before them. `is_open t`: the shape t is open.
abbrev pub write_shapes : (ℕ → Bool) → List Part → List ℕ
write_shapes is_open [] = []
write_shapes is_open (p ∷ ps) =
    (length (write_shape (is_open 0) p) ∷ write_shape (is_open 0) p) ++ write_shapes (λ t. is_open (suc t)) ps

-- The counts of kinds and of shapes, and then the shapes.
abbrev pub write_template : ℕ → ℕ → (ℕ → Bool) → List Part → List ℕ
write_template kinds shapes is_open parts = kinds ∷ shapes ∷ write_shapes is_open parts

-- What a template of so many kinds and shapes, these of them open, with these parts must be.
pub record WellFormed (kinds shapes : ℕ) (is_open : ℕ → Bool) (parts : List Part) : Type 0 where
  pub kinds-low : 1 ≤ kinds
  pub kinds-high : kinds ≤ max_kinds
  pub shapes-low : 1 ≤ shapes
  pub shapes-high : shapes ≤ max_shapes
  -- a part for each shape
  pub each-shape : length parts ≡ shapes
  pub formed : (t : ℕ) → t < shapes → PartFormed kinds shapes (get_or parts t Part.nothing)
  -- its words are not too many
  pub short : length (write_template kinds shapes is_open parts) ≤ max_template

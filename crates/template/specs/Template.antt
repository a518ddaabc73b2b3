-- What reading a whole template finds (docs/FORMAT.md, "Templates"). Refusals stand in the order of their tests, a line
-- each: the number, its place, and the test for it.
-- open_at, part_at          whether a shape is open, and where its part starts
-- read_shape, read_shapes   one shape, and so many shapes up to the template's end
-- Template, read_template  a template that is read: its counts and a part for each shape
-- shape_place, opens       where a shape's count of words stands, and whether the shape is open
-- template_says            what the operation "Read a template" says
-- Assumes nothing.
use Rattle.std.specs.Prelude.{ℕ, zero, suc, ◌+◌, ◌-◌, Bool, cond, List, [], ◌∷◌, length, get_or, ltb, leb, eqb}
use Rattle.words.specs.Said.{Said}
use Rattle.words.specs.Limits.{max_kinds, max_shapes, max_template, max_depth}
use Rattle.words.specs.Reading.{Reading, accepted, refuse, then, mapped, said_of}
use Rattle.bags.specs.Part.{Part}
use Rattle.parts.specs.declared.Sizes.{Sizes}
use Rattle.parts.specs.Placed.{Placed, placed, onto}
use Rattle.parts.specs.Reading.{Found, found, no_names, read_part}

-- A shape's words are one part exactly. 12: words are left after it, at the first.
abbrev pub whole_part : ℕ → Found Part → Reading (Placed Part)
whole_part end (found part next row) = refuse 12 next (ltb next end) (accepted (placed part end))

-- The shape whose count of words stands at `at` is open: the word after the count is 18.
unfoldable pub open_at : List ℕ → ℕ → Bool
open_at words at = eqb (get_or words (at + 1) 0) 18

-- Where its part starts: after that word if the shape is open, else after the count.
unfoldable pub part_at : List ℕ → ℕ → ℕ
part_at words at = cond (open_at words at) (at + 2) (at + 1)

-- The shape whose count of words stands at `at`. 4: the count is missing, or it reaches past the template's end.
unfoldable pub read_shape : Sizes → List ℕ → ℕ → Reading (Placed Part)
read_shape sizes words at =
    refuse 4 (length words) (leb (length words) at)
    (refuse 4 (length words) (ltb (length words - (at + 1)) (get_or words at 0))
    (then (read_part max_depth words (at + 1 + get_or words at 0) sizes (part_at words at) no_names)
    (whole_part (at + 1 + get_or words at 0))))

-- So many shapes, left to right. 12: words are left after the last, at the first.
unfoldable pub read_shapes : Sizes → List ℕ → ℕ → ℕ → Reading (Placed (List Part))
read_shapes sizes words zero at =
    refuse 12 at (ltb at (length words))
    (accepted (placed [] at))
read_shapes sizes words (suc n) at =
    then (read_shape sizes words at)
    (λ first. mapped (onto (◌∷◌ first.value)) (read_shapes sizes words n first.next))

-- Where the count of words of the shape stands that is n shapes after the one whose count is at `at`.
unfoldable pub shape_place : List ℕ → ℕ → ℕ → ℕ
shape_place words zero at = at
shape_place words (suc n) at = shape_place words n (at + 1 + get_or words at 0)

-- The shape t of a template is open.
abbrev pub opens : List ℕ → ℕ → Bool
opens words t = open_at words (shape_place words t 2)

-- A template: its counts of kinds and of shapes, and the part of each shape.
pub record Template : Type 0 where
  pub kinds : ℕ
  pub shapes : ℕ
  pub parts : List Part

abbrev pub sizes_of : ℕ → ℕ → Sizes
sizes_of kinds shapes = record { kinds = kinds; shapes = shapes }

-- The template of these counts whose shapes were read.
abbrev pub template_of : ℕ → ℕ → Placed (List Part) → Template
template_of kinds shapes read = record { kinds = kinds; shapes = shapes; parts = read.value }

-- 1: under 2 or over 4,096 words. 2: the count of kinds is not 1 to 64. 3: the count of shapes is not 1 to 32.
-- Then the shapes.
unfoldable pub read_template : List ℕ → Reading Template
read_template words =
    refuse 1 0 (ltb (length words) 2)
    (refuse 1 0 (ltb max_template (length words))
    (refuse 2 0 (ltb (get_or words 0 0) 1)
    (refuse 2 0 (ltb max_kinds (get_or words 0 0))
    (refuse 3 1 (ltb (get_or words 1 0) 1)
    (refuse 3 1 (ltb max_shapes (get_or words 1 0))
    (mapped (template_of (get_or words 0 0) (get_or words 1 0))
    (read_shapes (sizes_of (get_or words 0 0) (get_or words 1 0)) words (get_or words 1 0) 2)))))))

-- What is said of a template that is read: its counts.
abbrev pub template_values : Template → List ℕ
template_values template = template.kinds ∷ template.shapes ∷ []

unfoldable pub template_says : List ℕ → Said
template_says words = said_of template_values (read_template words)

-- Which numbers a template is refused with: 1 to 12, and 64.
-- TemplateNumber     a number of a template's refusals
-- template-numbers   a template that is refused is refused with one of them
-- Assumes nothing.
use mathlib.Core.Path.{◌≡◌}
use mathlib.Core.Logic.{◌⊎◌, inl, inr}
use mathlib.Core.Bool.{Bool}
use mathlib.Core.List.{List, ◌∷◌}
use Prim.Native.Nat.{ℕ, zero, suc, ◌+◌, ◌-◌, ◌≤◌}
use native.Mathlib.Omega.{arith}
use lib.ListN.{length, get_or}
use lib.Dec.{ltb, leb}
use Rattle.bags.specs.Part.{Part}
use Rattle.words.specs.Limits.{max_kinds, max_shapes, max_template, max_depth}
use Rattle.words.specs.Reading.{Reading, refuse}
use Rattle.words.proofs.Readings.{Numbered, refuse-numbered, then-numbered, mapped-numbered, numbered-map}
use Rattle.parts.specs.declared.Sizes.{Sizes}
use Rattle.parts.specs.Placed.{onto}
use Rattle.parts.specs.Reading.{Found, found, no_names, read_part}
use Rattle.parts.proofs.Numbers.{PartNumber, part-numbers}
use Rattle.template.specs.Template.{whole_part, part_at, read_shape, read_shapes, sizes_of, template_of, read_template}

-- A number of a template's refusals.
abbrev pub TemplateNumber : ℕ → Type 0
TemplateNumber n = ((1 ≤ n) × (n ≤ 12)) ⊎ (n ≡ 64)

-- A number of a part's refusals is one of them.
of_part : (n : ℕ) → PartNumber n → TemplateNumber n
of_part n (inl (low, high)) = inl (omega arith, omega arith)
of_part n (inr e) = inr e

-- One test of a decision list.
module _ {A : Type 0} where
  tested :
      (number place : ℕ) (test : Bool) (rest : Reading A) → 1 ≤ number → number ≤ 12 →
      Numbered TemplateNumber rest → Numbered TemplateNumber (refuse number place test rest)
  tested number place test rest low high h = refuse-numbered TemplateNumber number place test rest (inl (low, high)) h

whole_numbers : (end : ℕ) (f : Found Part) → Numbered TemplateNumber (whole_part end f)
whole_numbers end (found p next row) = tested 12 next (ltb next end) _ (omega arith) (omega arith) tt

module _ (sizes : Sizes) (words : List ℕ) where
  shape-numbers : (at : ℕ) → Numbered TemplateNumber (read_shape sizes words at)
  unfolding read_shape
  shape-numbers at =
      tested 4 (length words) (leb (length words) at) _ (omega arith) (omega arith)
      (tested 4 (length words) (ltb (length words - (at + 1)) (get_or words at 0)) _ (omega arith) (omega arith)
      (then-numbered TemplateNumber (read_part max_depth words (at + 1 + get_or words at 0) sizes (part_at words
      at) no_names)
      (whole_part (at + 1 + get_or words at 0))
      (numbered-map PartNumber TemplateNumber
      (read_part max_depth words (at + 1 + get_or words at 0) sizes (part_at words at) no_names) of_part
      (part-numbers words (at + 1 + get_or words at 0) sizes max_depth (part_at words at) no_names))
      (whole_numbers (at + 1 + get_or words at 0))))

  shapes-numbers : (count at : ℕ) → Numbered TemplateNumber (read_shapes sizes words count at)
  unfolding read_shapes
  shapes-numbers zero at = tested 12 at (ltb at (length words)) _ (omega arith) (omega arith) tt
  shapes-numbers (suc count) at =
      then-numbered TemplateNumber (read_shape sizes words at) _ (shape-numbers at)
      (λ first.
      mapped-numbered TemplateNumber (onto (◌∷◌ first.value)) (read_shapes sizes words count first.next)
      (shapes-numbers count first.next))

-- A template that is refused is refused with one of its numbers.
pub template-numbers : (words : List ℕ) → Numbered TemplateNumber (read_template words)
unfolding read_template
template-numbers words =
    tested 1 0 (ltb (length words) 2) _ (omega arith) (omega arith)
    (tested 1 0 (ltb max_template (length words)) _ (omega arith) (omega arith)
    (tested 2 0 (ltb (get_or words 0 0) 1) _ (omega arith) (omega arith)
    (tested 2 0 (ltb max_kinds (get_or words 0 0)) _ (omega arith) (omega arith)
    (tested 3 1 (ltb (get_or words 1 0) 1) _ (omega arith) (omega arith)
    (tested 3 1 (ltb max_shapes (get_or words 1 0)) _ (omega arith) (omega arith)
    (mapped-numbered TemplateNumber (template_of (get_or words 0 0) (get_or words 1 0))
    (read_shapes (sizes_of (get_or words 0 0) (get_or words 1 0)) words (get_or words 1 0) 2)
    (shapes-numbers (sizes_of (get_or words 0 0) (get_or words 1 0)) words (get_or words 1 0) 2)))))))

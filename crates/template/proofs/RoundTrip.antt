-- Every well-formed template, written, is read as itself; and what is read is the writing of what it is read as.
--   written-is-read   a well-formed template that is written is read as that template; written-opens: with those shapes
--                     open that are written so
--   read-is-written   the words of a template that is read are those that are written for it
--   read-is-formed    and it is well-formed
--   templates-are     so the words that are read are just the writings of the well-formed templates
-- Assumes nothing.
use Prim.Native.Nat.{ℕ, ◌≤◌, ◌<◌}
use mathlib.Core.Path.{◌≡◌, refl, sym, ap, subst, ◌∙◌}
use mathlib.Core.Logic.{◌↔◌}
use mathlib.Core.Bool.{Bool}
use mathlib.Core.List.{List, ◌∷◌}
use native.Mathlib.Omega.{arith}
use borrow.Author.Tests.{le-ltb, ltb-false}
use lib.ListN.{length, get_or}
use lib.Dec.{ltb}
use Rattle.words.specs.Limits.{max_kinds, max_shapes, max_template}
use Rattle.words.specs.Reading.{accepted}
use Rattle.words.proofs.Readings.{passed}
use Rattle.bags.specs.Part.{Part}
use Rattle.parts.specs.Writer.{WithinLimits}
use Rattle.parts.proofs.Stands.{Stands, stands_after, stands-all, stands-cons, stands-only}
use Rattle.parts.proofs.RoundTripRead.{Holds}
use Rattle.template.specs.Template.{read_shapes, opens, Template, sizes_of, read_template}
use Rattle.template.specs.Writer.{write_shapes, write_template, WellFormed}
use Rattle.template.proofs.TemplateLaws.{template-shapes-read}
use Rattle.template.proofs.Accepted.{template-accepted}
use Rattle.template.proofs.RoundTripWritten.{shapes-written, shapes-open}
use Rattle.template.proofs.RoundTripRead.{ShapesBack, shapes-back}

-- The template of these counts and parts.
abbrev template : ℕ → ℕ → List Part → Template
template kinds shapes parts = record { kinds = kinds; shapes = shapes; parts = parts }

module _ (kinds shapes : ℕ) (is_open : ℕ → Bool) (parts : List Part) where
  abbrev written : List ℕ
  written = write_template kinds shapes is_open parts

  -- the shapes stand after the two counts
  shapes-stand : Stands written 2 (write_shapes is_open parts)
  shapes-stand =
      stands_after written 1 shapes (write_shapes is_open parts)
      (stands_after written 0 kinds (shapes ∷ write_shapes is_open parts) (stands-all written))

  pub written-opens : (t : ℕ) → t < length parts → opens written t ≡ is_open t
  written-opens t l = shapes-open written is_open parts 2 shapes-stand t l

written-is-read : (kinds shapes : ℕ) (is_open : ℕ → Bool) (parts : List Part) → WellFormed kinds shapes is_open parts
    → read_template (write_template kinds shapes is_open parts) ≡ accepted (template kinds shapes parts)
unfolding read_template
written-is-read kinds shapes is_open parts w =
    let words : List ℕ = write_template kinds shapes is_open parts in
    let two : 2 ≤ length words = omega arith in
    let read = shapes-written kinds shapes w.kinds-high words is_open parts
    (λ t l. w.formed t (omega (arith, w.each-shape))) 2 (shapes-stand kinds shapes is_open parts) (omega arith) in
    let read' : read_shapes (sizes_of kinds shapes) words shapes 2
    ≡ accepted (record { value = parts; next = length words }) = rw w.each-shape at read in
    simp (
      le-ltb _ _ two,
      le-ltb _ _ w.short,
      le-ltb _ _ w.kinds-low,
      le-ltb _ _ w.kinds-high,
      le-ltb _ _ w.shapes-low,
      le-ltb _ _ w.shapes-high,
      read',
    )

-- What is known of the words of a template that is read, and of its parts.
abbrev Back : List ℕ → Template → Type 0
Back words t =
    (words ≡ write_template t.kinds t.shapes (opens words) t.parts)
    × ((n : ℕ) → n < t.shapes → WithinLimits (get_or t.parts n Part.nothing))

template-back : (words : List ℕ) (t : Template) → read_template words ≡ accepted t → Back words t
unfolding read_template
template-back words t e =
    let (a, r₁) = passed 1 0 (ltb (length words) 2) _ t e in
    let (b, r₂) = passed 1 0 (ltb max_template (length words)) _ t r₁ in
    let (c, r₃) = passed 2 0 (ltb (get_or words 0 0) 1) _ t r₂ in
    let (d, r₄) = passed 2 0 (ltb max_kinds (get_or words 0 0)) _ t r₃ in
    let (f, r₅) = passed 3 1 (ltb (get_or words 1 0) 1) _ t r₄ in
    let (g, r₆) = passed 3 1 (ltb max_shapes (get_or words 1 0)) _ t r₅ in
    let kinds : ℕ = get_or words 0 0 in
    let shapes : ℕ = get_or words 1 0 in
    let (read, q, same) = template-shapes-read kinds shapes (read_shapes (sizes_of kinds shapes) words shapes 2) t
    r₆ in
    let two : 2 ≤ length words = ltb-false (length words) 2 a in
    let found : ShapesBack words (sizes_of kinds shapes) shapes 2 read =
    subst (Holds (ShapesBack words (sizes_of kinds shapes) shapes 2)) q
    (shapes-back words (sizes_of kinds shapes) shapes 2 two) in
    let (s, size, count, limits) = found in
    let xs : List ℕ = write_shapes (opens words) read.value in
    subst (Back words) (sym same) (
      stands-only words (kinds ∷ shapes ∷ xs)
          (stands-cons words 0 kinds (shapes ∷ xs) refl (stands-cons words 1 shapes xs refl s))
          (omega arith),
      limits,
    )

read-is-written : (words : List ℕ) (t : Template) → read_template words ≡ accepted t
    → words ≡ write_template t.kinds t.shapes (opens words) t.parts
read-is-written words t e = (template-back words t e).0

read-is-formed : (words : List ℕ) (t : Template) → read_template words ≡ accepted t
    → WellFormed t.kinds t.shapes (opens words) t.parts
read-is-formed words t e =
    let a = template-accepted words t e in
    let (written, limits) = template-back words t e in
    record {
      kinds-low = a.kinds-low;
      kinds-high = a.kinds-high;
      shapes-low = a.shapes-low;
      shapes-high = a.shapes-high;
      each-shape = a.trees-length;
      formed = λ n l. record {
        once = a.single n l;
        labels = a.kinds-below n l;
        targets = a.shapes-below n l;
        deep = a.depth-bound n l;
        limits = limits n l;
      };
      short = subst (λ (xs : List ℕ). length xs ≤ max_template) written a.words-high;
    }

-- A list of words is read as a template exactly if the template is well-formed and the words are those written for it.
pub templates-are : (words : List ℕ) (t : Template) → (read_template words ≡ accepted t)
    ↔ (WellFormed t.kinds t.shapes (opens words) t.parts
    × (words ≡ write_template t.kinds t.shapes (opens words) t.parts))
templates-are words t = (
  λ e. (read-is-formed words t e, read-is-written words t e),
  λ h.
      let (w, e) = h in
      ap read_template e ∙ written-is-read t.kinds t.shapes (opens words) t.parts w,
)

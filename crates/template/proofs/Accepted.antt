-- What is known of a template that is accepted.
-- ShapeAccepted       a shape that was read: its words, its part, and what the part obeys
-- reads-shape         a shape that was read is so
-- place-next          where a shape's count of words stands, from the one before
-- reads-shapes        each of so many shapes was read at its place
-- TemplateAccepted    an accepted template: its sizes, and for each shape the part and its place
-- template-accepted   a template that is accepted is so
-- entry_past          its shapes have no entry for an incoming kind that is none of its own
-- Assumes nothing.
use mathlib.Core.Path.{◌≡◌, refl, ap, ◌∙◌, subst}
use mathlib.Core.List.{List, ◌∷◌}
use Prim.Native.Nat.{ℕ, zero, suc, ◌+◌, ◌-◌, ◌≤◌, ◌<◌}
use native.Mathlib.Omega.{arith}
use borrow.Author.Tests.{ltb-false, leb-false}
use lib.ListN.{length, get_or}
use lib.Dec.{ltb, leb}
use Rattle.bags.specs.Label.{outgoing, incoming, label_of}
use Rattle.bags.specs.Part.{Part, Names, Single, ShapesBelow, KindsBelow, depth}
use Rattle.bags.specs.Named.{named}
use Rattle.bags.proofs.Naming.{OfKindBelow, names-kind, named-declares, declares-names}
use Rattle.words.specs.Limits.{max_kinds, max_shapes, max_template, max_depth}
use Rattle.words.specs.Reading.{accepted}
use Rattle.words.proofs.Readings.{accepted-same, passed, then-accepted}
use Rattle.parts.specs.declared.Sizes.{Sizes}
use Rattle.parts.specs.Placed.{Placed, placed}
use Rattle.parts.specs.Reading.{Found, found, no_names, read_part}
use Rattle.parts.proofs.Places.{reads-within}
use Rattle.parts.proofs.Trees.{PartRead, reads-part}
use Rattle.template.specs.Template.{whole_part, part_at, read_shape, read_shapes, shape_place, Template, sizes_of}
use Rattle.template.specs.Template.{read_template}
use Rattle.template.specs.Machine.{entry_at, Tabled}
use Rattle.template.proofs.Opening.{part-near}
use Rattle.template.proofs.ShapeLaws.{shapes-first, shapes-length}
use Rattle.template.proofs.TemplateLaws.{template-shapes-read}

-- A shape that was read, whose count of words stands at `at` and whose part ends at `end`.
pub record ShapeAccepted (sizes : Sizes) (words : List ℕ) (at : ℕ) (p : Part) (end : ℕ) : Type 0 where
  -- its words lie inside the template, and there is one
  pub start : at + 1 < length words
  pub stop : end ≡ at + 1 + get_or words at 0
  pub inside : end ≤ length words
  -- they are one part exactly
  pub after : List ℕ
  pub whole : read_part max_depth words end sizes (part_at words at) no_names ≡ accepted (found p end after)
  pub part : PartRead sizes max_depth no_names p after

module _ (sizes : Sizes) (words : List ℕ) (b : sizes.kinds ≤ max_kinds) where
  whole-accepted :
      (at : ℕ) (f : Found Part) (p : Placed Part) → at < length words →
      get_or words at 0 ≤ length words - (at + 1) →
      read_part max_depth words (at + 1 + get_or words at 0) sizes (part_at words at) no_names ≡ accepted f →
      whole_part (at + 1 + get_or words at 0) f ≡ accepted p → ShapeAccepted sizes words at p.value p.next
  whole-accepted at (found q m after) p h i e f =
      let w = passed 12 m (ltb m (at + 1 + get_or words at 0)) _ p f in
      let inside = reads-within max_depth words (at + 1 + get_or words at 0) sizes (part_at words at) no_names q m
      after e in
      let u : m ≡ at + 1 + get_or words at 0 = omega (arith, ltb-false m (at + 1 + get_or words at 0) w.0) in
      let v : read_part max_depth words (at + 1 + get_or words at 0) sizes (part_at words at) no_names
      ≡ accepted (found q (at + 1 + get_or words at 0) after) = rw u at e in
      subst (λ (r : Placed Part). ShapeAccepted sizes words at r.value r.next) (accepted-same w.1)
      (record {
        start = omega (arith, inside, part-near words at);
        stop = refl;
        inside = omega arith;
        after = after;
        whole = v;
        part = reads-part sizes words (at + 1 + get_or words at 0) max_depth (part_at words at) no_names q
            (at + 1 + get_or words at 0) after (omega arith) v;
      })

  -- A shape that was read.
  reads-shape :
      (at : ℕ) (p : Placed Part) → read_shape sizes words at ≡ accepted p →
      ShapeAccepted sizes words at p.value p.next
  unfolding read_shape
  reads-shape at p e =
      let (start, e₁) = passed 4 (length words) (leb (length words) at) _ p e in
      let (room, e₂) = passed 4 (length words) (ltb (length words - (at + 1)) (get_or words at 0)) _ p e₁ in
      let end = at + 1 + get_or words at 0 in
      let (f, read, whole) = then-accepted (read_part max_depth words end sizes (part_at words at) no_names)
      (whole_part end)
      p e₂ in
      whole-accepted at f p (leb-false _ _ start) (ltb-false _ _ room) read whole

-- Where a shape's count of words stands, from the shape before it.
pub place-next :
    (words : List ℕ) (n at : ℕ) →
    shape_place words (suc n) at ≡ shape_place words n at + 1 + get_or words (shape_place words n at) 0
unfolding shape_place
place-next words zero at = refl
place-next words (suc n) at = place-next words n (at + 1 + get_or words at 0)

-- So many shapes that were read, from the one whose count of words stands at `at`.
abbrev EachRead : Sizes → List ℕ → ℕ → ℕ → List Part → Type 0
EachRead sizes words count at parts =
    (t : ℕ) → t < count →
    read_shape sizes words (shape_place words t at)
    ≡ accepted (placed (get_or parts t Part.nothing) (shape_place words (suc t) at))

module _ (sizes : Sizes) (words : List ℕ) (b : sizes.kinds ≤ max_kinds) where
  each-shape :
      (count at : ℕ) (head : Part) (tail : List Part) →
      read_shape sizes words at ≡ accepted (placed head (at + 1 + get_or words at 0)) →
      EachRead sizes words count (at + 1 + get_or words at 0) tail → EachRead sizes words (suc count) at (head ∷ tail)
  unfolding shape_place
  each-shape count at head tail e w zero h = e
  each-shape count at head tail e w (suc t) h = w t (omega arith)

  -- Each of the shapes was read at its place.
  reads-shapes :
      (count at : ℕ) (all : Placed (List Part)) → read_shapes sizes words count at ≡ accepted all →
      EachRead sizes words count at all.value
  reads-shapes zero at all e = λ t h. absurd (omega arith)
  reads-shapes (suc count) at all e =
      let w = shapes-first sizes words count at all e in
      let stop = (reads-shape sizes words b at w.head w.first).stop in
      let v = reads-shapes count (at + 1 + get_or words at 0) w.tail (rw stop at w.others) in
      let first : read_shape sizes words at ≡ accepted (placed w.head.value (at + 1 + get_or words at 0))
      = w.first ∙ ap (λ (n : ℕ). accepted (placed w.head.value n)) stop in
      rw w.whole (each-shape count at w.head.value w.tail.value first v)

-- An accepted template: its counts, and a part for each shape.
pub record TemplateAccepted (words : List ℕ) (t : Template) : Type 0 where
  pub words-high : length words ≤ max_template
  pub kinds-low : 1 ≤ t.kinds
  pub kinds-high : t.kinds ≤ max_kinds
  pub shapes-low : 1 ≤ t.shapes
  pub shapes-high : t.shapes ≤ max_shapes
  pub trees-length : length t.parts ≡ t.shapes
  -- the words of the shape s lie inside the template, and they are one part exactly, which obeys the format
  pub shape :
      (s : ℕ) → s < t.shapes →
      ShapeAccepted (sizes_of t.kinds t.shapes) words (shape_place words s 2) (get_or t.parts s Part.nothing)
      (shape_place words (suc s) 2)
  pub single : (s : ℕ) → s < t.shapes → Single (get_or t.parts s Part.nothing)
  pub shapes-below : (s : ℕ) → s < t.shapes → ShapesBelow t.shapes (get_or t.parts s Part.nothing)
  pub kinds-below : (s : ℕ) → s < t.shapes → KindsBelow t.kinds (get_or t.parts s Part.nothing)
  pub depth-bound : (s : ℕ) → s < t.shapes → depth (get_or t.parts s Part.nothing) ≤ max_depth

module _ (words : List ℕ) where
  shapes-accepted :
      (t : Template) → length words ≤ max_template → 1 ≤ t.kinds → t.kinds ≤ max_kinds → 1 ≤ t.shapes →
      t.shapes ≤ max_shapes → (n : ℕ) →
      read_shapes (sizes_of t.kinds t.shapes) words t.shapes 2 ≡ accepted (placed t.parts n) →
      TemplateAccepted words t
  shapes-accepted t high kinds-low kinds-high shapes-low shapes-high n r =
      let sizes = sizes_of t.kinds t.shapes in
      let each = reads-shapes sizes words kinds-high t.shapes 2 (placed t.parts n) r in
      let shape
      : (s : ℕ) → s < t.shapes →
      ShapeAccepted sizes words (shape_place words s 2) (get_or t.parts s Part.nothing) (shape_place words (suc s) 2)
      = λ s i. reads-shape sizes words kinds-high (shape_place words s 2)
      (placed (get_or t.parts s Part.nothing) (shape_place words (suc s) 2)) (each s i) in
      record {
        words-high = high;
        kinds-low = kinds-low;
        kinds-high = kinds-high;
        shapes-low = shapes-low;
        shapes-high = shapes-high;
        trees-length = shapes-length sizes words t.shapes 2 (placed t.parts n) r;
        shape = shape;
        single = λ s i. (shape s i).part.single;
        shapes-below = λ s i. (shape s i).part.shapes;
        kinds-below = λ s i. (shape s i).part.kinds;
        depth-bound = λ s i. (shape s i).part.deep;
      }

  -- A template that is accepted.
  pub template-accepted : (t : Template) → read_template words ≡ accepted t → TemplateAccepted words t
  unfolding read_template
  template-accepted t e =
      let kinds = get_or words 0 0 in
      let shapes = get_or words 1 0 in
      let (low, e₁) = passed 1 0 (ltb (length words) 2) _ t e in
      let (high, e₂) = passed 1 0 (ltb max_template (length words)) _ t e₁ in
      let (kinds-low, e₃) = passed 2 0 (ltb kinds 1) _ t e₂ in
      let (kinds-high, e₄) = passed 2 0 (ltb max_kinds kinds) _ t e₃ in
      let (shapes-low, e₅) = passed 3 1 (ltb shapes 1) _ t e₄ in
      let (shapes-high, e₆) = passed 3 1 (ltb max_shapes shapes) _ t e₅ in
      let (all, read, whole) =
      template-shapes-read kinds shapes (read_shapes (sizes_of kinds shapes) words shapes 2) t e₆ in
      rw whole
      (shapes-accepted (record { kinds = kinds; shapes = shapes; parts = all.value })
      (ltb-false max_template (length words) high) (ltb-false kinds 1 kinds-low) (ltb-false max_kinds kinds kinds-high)
      (ltb-false shapes 1 shapes-low) (ltb-false max_shapes shapes shapes-high) all.next read)

-- A label that a part does not name has no entry.
unnamed-none : (p : Part) (k : ℕ) → (Names p k → ⊥) → named p k ≡ 0
unnamed-none p k h = by-entry (named p k) refl
  where
    by-entry : (m : ℕ) → named p k ≡ m → named p k ≡ 0
    by-entry zero e = e
    by-entry (suc s) e = absurd (h (declares-names p k s (named-declares p k s e)))

-- An incoming label past the kinds is of no kind below them.
past-kinds : (kinds k : ℕ) → kinds ≤ max_kinds → kinds ≤ k → OfKindBelow kinds (label_of incoming k) → ⊥
past-kinds kinds k few past (outgoing, kind, l, q) = omega arith
past-kinds kinds k few past (incoming, kind, l, q) = omega arith

-- The table has no entry for an incoming kind that the template does not have.
pub entry_past :
    (words names : List ℕ) (t : Template) → read_template words ≡ accepted t → Tabled t.parts names → (s k : ℕ) →
    s < t.shapes → t.kinds ≤ k → k < max_kinds → entry_at names s (label_of incoming k) ≡ 0
entry_past words names t e table s k below past high =
    let a = template-accepted words t e in
    let p = get_or t.parts s Part.nothing in
    table s (label_of incoming k) (omega (arith, a.trees-length)) (omega arith)
    ∙ unnamed-none p (label_of incoming k)
    (λ n. past-kinds t.kinds k a.kinds-high past
    (names-kind t.kinds p (a.kinds-below s below) (label_of incoming k) n))

-- What is read is written: the words of shapes that are read are those of the shapes.
-- ShapeBack, shape-back     of a shape: its count and its words stand there, up to the next place
-- ShapesBack, shapes-back   of the shapes up to the template's end
-- Assumes nothing.
use Prim.Native.Nat.{ℕ, zero, suc, ◌+◌, ◌-◌, ◌≤◌, ◌<◌}
use mathlib.Core.Path.{◌≡◌, refl, sym, ap, subst}
use mathlib.Core.Bool.{Bool}
use mathlib.Core.List.{List, ◌∷◌}
use native.Mathlib.Omega.{arith}
use borrow.Author.Tests.{leb-false, ltb-false}
use lib.ListN.{length, get_or, length-append}
use lib.Dec.{ltb, leb}
use Rattle.words.specs.Limits.{max_depth}
use Rattle.words.proofs.Bools.{bool_case}
use Rattle.words.proofs.Readings.{refuse-case}
use Rattle.bags.specs.Part.{Part}
use Rattle.parts.specs.declared.Sizes.{Sizes}
use Rattle.parts.specs.Placed.{Placed, onto}
use Rattle.parts.specs.Reading.{Found, found, no_names, read_part}
use Rattle.parts.specs.Writer.{write_part, WithinLimits}
use Rattle.parts.proofs.Stands.{Stands, stands_here, stands-nil, stands-cons, stands-append}
use Rattle.parts.proofs.RoundTripRead.{Holds, then-holds, mapped-holds, PartBack, part-back}
use Rattle.template.specs.Template.{whole_part, open_at, part_at, read_shape, read_shapes, shape_place}
use Rattle.template.specs.Writer.{write_shape, write_shapes}
use Rattle.template.proofs.Opening.{open-word, part-open, part-closed}

module _ (words : List ℕ) (sizes : Sizes) where
  -- A shape's words stand after its count, where its part stands where it starts, and end with it.
  shape-stands : (at : ℕ) (p : Part) → Stands words (part_at words at) (write_part p)
      → Stands words (at + 1) (write_shape (open_at words at) p)
      × (at + 1 + length (write_shape (open_at words at) p) ≡ part_at words at + length (write_part p))
  shape-stands at p s = bool_case (open_at words at)
      (λ e.
      let start = part-open words at e in
      let next : part_at words at ≡ at + 1 + 1 = omega (arith, start) in
      rw e (
        stands-cons words (at + 1) 18 (write_part p) (open-word words at e)
            (subst (λ (k : ℕ). Stands words k (write_part p)) next s),
        omega (arith, start),
      ))
      (λ e.
      let start = part-closed words at e in
      rw e (subst (λ (k : ℕ). Stands words k (write_part p)) start s, omega (arith, start)))

  -- The shape's count of words and its words stand there, up to the next place.
  abbrev ShapeBack : ℕ → Placed Part → Type 0
  ShapeBack at read =
      let xs = write_shape (open_at words at) read.value in
      Stands words at (length xs ∷ xs) × (read.next ≡ at + suc (length xs)) × (read.next ≤ length words)
      × WithinLimits read.value

  whole_back : (at : ℕ) → at < length words → get_or words at 0 ≤ length words - (at + 1)
      → (f : Found Part) → PartBack words (at + 1 + get_or words at 0) (part_at words at) f
      → Holds (ShapeBack at) (whole_part (at + 1 + get_or words at 0) f)
  whole_back at l room (found p next row) w =
      let (s, e, b, limits) = w in
      let end : ℕ = at + 1 + get_or words at 0 in
      let xs : List ℕ = write_shape (open_at words at) p in
      let (stand, size) = shape-stands at p s in
      refuse-case 12 next (Holds (ShapeBack at)) (ltb next end) _ (λ f. tt)
      (λ f.
      let last : end ≤ next = ltb-false next end f in (
        stands-cons words at (length xs) xs (omega arith) stand,
        omega arith,
        omega arith,
        limits,
      ))

  shape-back : (at : ℕ) → Holds (ShapeBack at) (read_shape sizes words at)
  unfolding read_shape
  shape-back at =
      let end : ℕ = at + 1 + get_or words at 0 in
      let start : ℕ = part_at words at in
      refuse-case 4 (length words) (Holds (ShapeBack at)) (leb (length words) at) _ (λ e. tt)
      (λ e. refuse-case 4 (length words) (Holds (ShapeBack at)) (ltb (length words - (at + 1)) (get_or words at 0)) _
      (λ f. tt)
      (λ f. then-holds (PartBack words end start) (ShapeBack at) (read_part max_depth words end sizes start no_names)
      (whole_part end) (part-back words end sizes max_depth start no_names)
      (whole_back at (leb-false (length words) at e) (ltb-false _ _ f))))

  -- Which shapes are open, from the one whose count of words stands at a place.
  abbrev opens_from : ℕ → ℕ → Bool
  opens_from at t = open_at words (shape_place words t at)

  -- The words of so many shapes, these of them open, stand there, up to the template's end.
  abbrev ShapesStand : (ℕ → Bool) → ℕ → ℕ → Placed (List Part) → Type 0
  ShapesStand is_open count at read =
      let xs = write_shapes is_open read.value in
      Stands words at xs × (length words ≡ at + length xs) × (length read.value ≡ count)
      × ((t : ℕ) → t < count → WithinLimits (get_or read.value t Part.nothing))

  abbrev pub ShapesBack : ℕ → ℕ → Placed (List Part) → Type 0
  ShapesBack count at = ShapesStand (opens_from at) count at

  -- The shapes after the first are those from its end on.
  opens-after : (at next : ℕ) (xs : List ℕ) → Stands words at (length xs ∷ xs) → next ≡ at + suc (length xs)
      → (λ (t : ℕ). opens_from at (suc t)) ≡ opens_from next
  unfolding shape_place
  opens-after at next xs s e =
      let here = stands_here words at (length xs) xs s in
      let same : at + 1 + get_or words at 0 ≡ next = omega (arith, here) in
      ap opens_from same

  first_back : (n at : ℕ) (first : Placed Part) → ShapeBack at first → (others : Placed (List Part))
      → ShapesBack n first.next others → ShapesBack (suc n) at (onto (◌∷◌ first.value) others)
  unfolding shape_place
  first_back n at first v others w =
      let (s, e, b, limits) = v in
      let xs : List ℕ = write_shape (open_at words at) first.value in
      let same = opens-after at first.next xs s e in
      let rest : List ℕ = write_shapes (λ t. opens_from at (suc t)) others.value in
      let (r, f, c, more) =
      subst (λ (o : ℕ → Bool). ShapesStand o n first.next others) (sym same) w in
      let count = length-append (length xs ∷ xs) rest in (
        stands-append words at (length xs ∷ xs) rest s (subst (λ (k : ℕ). Stands words k rest) e r),
        omega arith,
        ap suc c,
        each limits more,
      )
    where
      each : WithinLimits first.value → ((t : ℕ) → t < n → WithinLimits (get_or others.value t Part.nothing))
          → (t : ℕ) → t < suc n → WithinLimits (get_or (first.value ∷ others.value) t Part.nothing)
      each h k zero l = h
      each h k (suc t) l = k t (omega arith)

  pub shapes-back : (n at : ℕ) → at ≤ length words → Holds (ShapesBack n at) (read_shapes sizes words n at)
  unfolding read_shapes
  shapes-back zero at l =
      refuse-case 12 at (Holds (ShapesBack 0 at)) (ltb at (length words)) _ (λ e. tt)
      (λ e.
      let last : length words ≤ at = ltb-false at (length words) e in
      (stands-nil words at, omega arith, refl, λ t lt. absurd (omega arith)))
  shapes-back (suc n) at l =
      then-holds (ShapeBack at) (ShapesBack (suc n) at) (read_shape sizes words at) _ (shape-back at)
      (λ first v. mapped-holds (ShapesBack n first.next) (ShapesBack (suc n) at) (onto (◌∷◌ first.value))
      (read_shapes sizes words n first.next) (shapes-back n first.next v.2) (first_back n at first v))

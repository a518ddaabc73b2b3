-- What is written is read: the words of a shape, and of the shapes of a template.
-- shape-opens, shape-starts   the words of a shape tell whether it is open, and where its part stands
-- shapes-written              the words of shapes up to a template's end are read as their parts
-- shapes-open                 just those shapes are open that are written so
-- Assumes nothing.
use Prim.Native.Nat.{ℕ, zero, suc, ◌+◌, ◌-◌, ◌≤◌, ◌<◌}
use mathlib.Core.Path.{◌≡◌, sym, subst}
use mathlib.Core.Bool.{Bool, true, false}
use mathlib.Core.List.{List, [], ◌∷◌}
use native.Mathlib.Omega.{arith}
use borrow.Author.Tests.{le-ltb, lt-leb}
use lib.ListN.{length, get_or, length-append}
use Rattle.words.specs.Limits.{max_kinds, max_labels, max_depth}
use Rattle.words.specs.Reading.{accepted}
use Rattle.bags.specs.Part.{Part}
use Rattle.parts.specs.Placed.{placed}
use Rattle.parts.specs.Reading.{no_names}
use Rattle.parts.specs.Writer.{write_part, PartFormed}
use Rattle.parts.proofs.Trees.{no-entry}
use Rattle.parts.proofs.Stands.{Stands, stands_here, stands_after, stands-left, stands-right}
use Rattle.parts.proofs.RoundTripWritten.{part-written, not-opening}
use Rattle.template.specs.Template.{open_at, part_at, read_shape, read_shapes, shape_place, sizes_of}
use Rattle.template.specs.Writer.{write_shape, write_shapes}
use Rattle.template.proofs.Opening.{word-open, word-closed, part-open, part-closed}

module _ (words : List ℕ) where
  -- The words of a shape tell whether it is open,
  shape-opens : (is_open : Bool) (p : Part) (at : ℕ) → Stands words (at + 1) (write_shape is_open p)
      → open_at words at ≡ is_open
  shape-opens true p at s = word-open words at (stands_here words (at + 1) 18 (write_part p) s)
  shape-opens false p at s = word-closed words at (not-opening words p (at + 1) s)

  -- and its part stands where it starts, up to their end.
  shape-starts : (is_open : Bool) (p : Part) (at : ℕ) → Stands words (at + 1) (write_shape is_open p)
      → Stands words (part_at words at) (write_part p)
      × (part_at words at + length (write_part p) ≡ at + 1 + length (write_shape is_open p))
  shape-starts true p at s =
      let start = part-open words at (shape-opens true p at s) in
      let next : at + 1 + 1 ≡ part_at words at = omega (arith, start) in (
        subst (λ (k : ℕ). Stands words k (write_part p)) next (stands_after words (at + 1) 18 (write_part p) s),
        omega (arith, start),
      )
  shape-starts false p at s =
      let start = part-closed words at (shape-opens false p at s) in
      (subst (λ (k : ℕ). Stands words k (write_part p)) (sym start) s, omega (arith, start))

module _ (kinds shapes : ℕ) (few : kinds ≤ max_kinds) (words : List ℕ) where
  -- A shape's count of words, and its part.
  shape-written : (is_open : Bool) (p : Part) → PartFormed kinds shapes p → (at : ℕ)
      → Stands words at (length (write_shape is_open p) ∷ write_shape is_open p)
      → at + suc (length (write_shape is_open p)) ≤ length words
      → read_shape (sizes_of kinds shapes) words at ≡ accepted (placed p (at + suc (length (write_shape is_open p))))
  unfolding read_shape
  shape-written is_open p f at s e =
      let n : ℕ = length (write_shape is_open p) in
      let here : get_or words at 0 ≡ n = stands_here words at n (write_shape is_open p) s in
      let start : at < length words = omega arith in
      let room : n ≤ length words - (at + 1) = omega arith in
      let place : at + suc n ≡ at + 1 + n = omega arith in
      let (starts, ends) = shape-starts words is_open p at (stands_after words at n (write_shape is_open p) s) in
      let whole = part-written words (at + 1 + n) (sizes_of kinds shapes) few p max_depth (part_at words at) no_names
      (record {
        once = f.once;
        labels = f.labels;
        targets = f.targets;
        deep = f.deep;
        limits = f.limits;
        fresh = λ k named. no-entry max_labels k;
      })
      starts (omega arith) in
      let over : at + 1 + n ≤ at + 1 + n = omega arith in
      simp (lt-leb _ _ start, here, le-ltb _ _ room, whole, ends, le-ltb _ _ over, place)

  pub shapes-written : (is_open : ℕ → Bool) (ps : List Part)
      → ((t : ℕ) → t < length ps → PartFormed kinds shapes (get_or ps t Part.nothing))
      → (at : ℕ) → Stands words at (write_shapes is_open ps) → at + length (write_shapes is_open ps) ≡ length words
      → read_shapes (sizes_of kinds shapes) words (length ps) at ≡ accepted (placed ps (length words))
  unfolding read_shapes
  shapes-written is_open [] f at s e =
      let last : at ≡ length words = omega arith in
      let over : length words ≤ length words = omega arith in
      simp (last, le-ltb _ _ over)
  shapes-written is_open (p ∷ ps) f at s e =
      let xs : List ℕ = length (write_shape (is_open 0) p) ∷ write_shape (is_open 0) p in
      let rest : List ℕ = write_shapes (λ t. is_open (suc t)) ps in
      let n = length-append xs rest in
      let first = shape-written (is_open 0) p (f 0 (omega arith)) at (stands-left words at xs rest s) (omega arith) in
      let others = shapes-written (λ t. is_open (suc t)) ps (λ t l. f (suc t) (omega arith))
      (at + suc (length (write_shape (is_open 0) p))) (stands-right words at xs rest s) (omega arith) in
      simp (first, others)

-- Just those shapes are open that are written so.
pub shapes-open : (words : List ℕ) (is_open : ℕ → Bool) (ps : List Part) (at : ℕ)
    → Stands words at (write_shapes is_open ps) → (t : ℕ) → t < length ps
    → open_at words (shape_place words t at) ≡ is_open t
unfolding shape_place
shapes-open words is_open [] at s t l = absurd (omega arith)
shapes-open words is_open (p ∷ ps) at s zero l =
    let xs : List ℕ = write_shape (is_open 0) p in
    let rest : List ℕ = write_shapes (λ t. is_open (suc t)) ps in
    shape-opens words (is_open 0) p at
    (stands_after words at (length xs) xs (stands-left words at (length xs ∷ xs) rest s))
shapes-open words is_open (p ∷ ps) at s (suc t) l =
    let xs : List ℕ = write_shape (is_open 0) p in
    let rest : List ℕ = write_shapes (λ t. is_open (suc t)) ps in
    let here = stands_here words at (length xs) xs (stands-left words at (length xs ∷ xs) rest s) in
    let next : at + suc (length xs) ≡ at + 1 + get_or words at 0 = omega (arith, here) in
    shapes-open words (λ t. is_open (suc t)) ps (at + 1 + get_or words at 0)
    (subst (λ (k : ℕ). Stands words k rest) next (stands-right words at (length xs ∷ xs) rest s)) t (omega arith)

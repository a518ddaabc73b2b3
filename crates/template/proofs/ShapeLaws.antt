-- Laws of specs/Template: what reading a shape, and so many shapes, is under the tests that lead to an answer.
-- refused-read    an answer tells whether something was read; next-refused: it is one of the two
-- shape-…         one shape, and the names that it leaves in its row
-- shapes-…        so many shapes
-- Assumes nothing.
use mathlib.Core.Path.{◌≡◌, refl, ap, sym, ◌∙◌}
use mathlib.Core.Bool.{Bool, true, false, cond}
use mathlib.Core.List.{List, [], ◌∷◌}
use Prim.Native.Nat.{ℕ, zero, suc, ◌+◌, ◌-◌, ◌≤◌, ◌<◌}
use native.Mathlib.Omega.{arith}
use borrow.Author.Tests.{le-ltb, lt-ltb, le-leb, lt-leb, ltb-false}
use lib.ListN.{length, get_or}
use lib.Dec.{ltb}
use Rattle.bags.specs.Part.{Part}
use Rattle.bags.specs.Named.{named}
use Rattle.words.specs.Limits.{max_kinds, max_depth}
use Rattle.words.specs.Reading.{Reading, accepted, turned_down, refuse, then, mapped}
use Rattle.words.proofs.Readings.{accepted-same, accepted-turned, passed, then-accepted}
use Rattle.parts.specs.declared.Sizes.{Sizes}
use Rattle.parts.specs.Placed.{Placed, placed, onto}
use Rattle.parts.specs.Reading.{Found, found, no_names, read_part}
use Rattle.parts.specs.Machine.{Step, shown, outcome}
use Rattle.parts.proofs.Trees.{reads-names}
use Rattle.template.specs.Template.{whole_part, part_at, read_shape, read_shapes}
use Rattle.template.specs.Machine.{next_of, ShapeAnswer}
use Rattle.template.proofs.Opening.{part-near}

-- An answer tells whether something was read.
pub refused-read :
    {A B : Type 0} {n p : ℕ} (x : Reading (Placed A)) (a : Placed A) → turned_down n p ≡ next_of x → x ≡ accepted a → B
refused-read {n = n} {p = p} x a e q =
    let r : turned_down n p ≡ accepted a.next = e ∙ ap next_of q in
    let z : ◌≡◌ {A = ℕ} 0 1 = cc in
    absurd (omega arith)

pub next-refused : {A : Type 0} {m n p : ℕ} → accepted m ≡ turned_down n p → A
next-refused e = let z : ◌≡◌ {A = ℕ} 0 1 = cc in absurd (omega arith)

-- What the code makes of a part's answer at the shape's end.
abbrev finished : ℕ → Reading Step → Reading ℕ
finished end (accepted s) = cond (ltb s.next end) (turned_down 12 s.next) (accepted end)
finished end (turned_down n p) = turned_down n p

finished-pick :
    (b : Bool) (p : Part) (n end : ℕ) →
    cond b (turned_down 12 n) (accepted end) ≡ next_of (refuse 12 n b (accepted (placed p end)))
finished-pick true p n end = refl
finished-pick false p n end = refl

finished-whole :
    (end : ℕ) (x : Reading (Found Part)) → finished end (outcome x) ≡ next_of (then x (whole_part end))
finished-whole end (accepted (found p n row)) = finished-pick (ltb n end) p n end
finished-whole end (turned_down n p) = refl

-- A whole part that was read is what the reading found.
whole-names :
    (end : ℕ) (x : Reading (Found Part)) (n : ℕ) (row : List ℕ) (p : Placed Part) → shown (accepted n) row ≡ outcome x →
    then x (whole_part end) ≡ accepted p →
    ((q : Part) (m : ℕ) (after : List ℕ) → x ≡ accepted (found q m after) → (k : ℕ) → get_or after k 0 ≡ named q k) →
    (k : ℕ) → get_or row k 0 ≡ named p.value k
unfolding shown
whole-names end (accepted (found q m after)) n row p e w h k =
    let s = (passed 12 m (ltb m end) (accepted (placed q end)) p w).1 in
    ap (λ (o : Step). get_or o.row k 0) (accepted-same e) ∙ h q m after refl k
    ∙ ap (λ (t : Placed Part). named t.value k) (accepted-same s)
whole-names end (turned_down m q) n row p e w h k = accepted-turned e

module _ (sizes : Sizes) (words : List ℕ) (at : ℕ) where
  -- A shape that is refused has no part, so any row does.
  no-shape :
      (n p : ℕ) (row : List ℕ) → turned_down n p ≡ next_of (read_shape sizes words at) →
      ShapeAnswer (read_shape sizes words at) (turned_down n p) row
  no-shape n p row e = record { read = e; names = λ q o. refused-read (read_shape sizes words at) q e o }

  pub shape-missing :
      (row : List ℕ) → length words ≤ at → ShapeAnswer (read_shape sizes words at) (turned_down 4 (length words)) row
  unfolding read_shape
  shape-missing row h = no-shape 4 (length words) row (simp (le-leb _ _ h))

  module _ (count : ℕ) (h : at < length words) (e : count ≡ get_or words at 0) where
    long : length words - (at + 1) < count → turned_down 4 (length words) ≡ next_of (read_shape sizes words at)
    unfolding read_shape
    long i =
        let j : length words - (at + 1) < get_or words at 0 = omega arith in
        simp (lt-leb _ _ h, lt-ltb _ _ j)

    pub shape-long :
        (row : List ℕ) → length words - (at + 1) < count →
        ShapeAnswer (read_shape sizes words at) (turned_down 4 (length words)) row
    shape-long row i = no-shape 4 (length words) row (long i)

    module _ (i : count ≤ length words - (at + 1)) where
      shape-by :
          then (read_part max_depth words (at + 1 + count) sizes (part_at words at) no_names) (whole_part (at + 1 +
          count))
          ≡ read_shape sizes words at
      unfolding read_shape
      shape-by =
          let j : get_or words at 0 ≤ length words - (at + 1) = omega arith in
          simp (lt-leb _ _ h, le-ltb _ _ j)
          (ap
          (λ (n : ℕ).
          then (read_part max_depth words (at + 1 + n) sizes (part_at words at) no_names) (whole_part (at + 1 + n))) e)

      -- A shape of no words has no part, wherever it would start.
      pub shape-empty : (row : List ℕ) → count ≡ 0 → ShapeAnswer (read_shape sizes words at) (turned_down 4 (at + 1))
          row
      unfolding read_part
      shape-empty row none =
          let end : at + 1 + count ≡ at + 1 = omega arith in
          let past : at + 1 ≤ part_at words at = (part-near words at).0 in
          no-shape 4 (at + 1) row (ap next_of (simp (end, le-leb _ _ past) at shape-by))

      -- Its part was read from `start` on, into a row without names.
      module _
          (row : List ℕ) (start : ℕ) (r : Reading ℕ) (after : List ℕ) (b : row ≡ no_names) (f : start ≡ part_at words
          at)
          (q : shown r after ≡ outcome (read_part max_depth words (at + 1 + count) sizes start row)) where
        shape-finished : finished (at + 1 + count) (shown r after) ≡ next_of (read_shape sizes words at)
        shape-finished =
            ap (finished (at + 1 + count)) (rw (b, f) at q)
            ∙ finished-whole (at + 1 + count) (read_part max_depth words (at + 1 + count) sizes (part_at words at)
            no_names)
            ∙ ap next_of shape-by

        pub shape-left :
            (n : ℕ) → r ≡ accepted n → n < at + 1 + count → ShapeAnswer (read_shape sizes words at) (turned_down 12 n)
            after
        unfolding shown
        shape-left n o j = no-shape 12 n after (simp (o, lt-ltb _ _ j) at shape-finished)

        pub shape-refused : (n p : ℕ) → r ≡ turned_down n p → ShapeAnswer (read_shape sizes words at) (turned_down n
            p) after
        unfolding shown
        shape-refused n p o = no-shape n p after (simp o at shape-finished)

        -- The row has the names of the part that was read.
        shape-names :
            (n : ℕ) → sizes.kinds ≤ max_kinds → r ≡ accepted n → (p : Placed Part) →
            read_shape sizes words at ≡ accepted p → (k : ℕ) → get_or after k 0 ≡ named p.value k
        shape-names n l o p s =
            whole-names (at + 1 + count) (read_part max_depth words (at + 1 + count) sizes (part_at words at)
            no_names) n
            after p (rw (b, f, o) at q) (shape-by ∙ s)
            (λ t m row' g. reads-names sizes words (at + 1 + count) max_depth (part_at words at) t m row' l g)

        pub shape-done :
            (n : ℕ) → sizes.kinds ≤ max_kinds → r ≡ accepted n → at + 1 + count ≤ n →
            ShapeAnswer (read_shape sizes words at) (accepted (at + 1 + count)) after
        unfolding shown
        shape-done n l o j = record { read = simp (o, le-ltb _ _ j) at shape-finished; names = shape-names n l o }

-- So many shapes. The answers do not show the parts.
map_read :
    {A B : Type 0} (f : A → B) (x : Reading (Placed A)) → next_of x ≡ next_of (mapped (onto f) x)
map_read f (accepted a) = refl
map_read f (turned_down n p) = refl

then_next :
    {A B C : Type 0} (f : A → B → C) (x : Reading (Placed A)) (rest : ℕ → Reading (Placed B)) (n : ℕ) →
    accepted n ≡ next_of x →
    next_of (rest n) ≡ next_of (then x (λ a. mapped (onto (f a.value)) (rest a.next)))
then_next f (accepted a) rest n e = let q : n ≡ a.next = cc in rw q (map_read (f a.value) (rest a.next))
then_next f (turned_down m p) rest n e = next-refused e

then-refused :
    {A B : Type 0} (x : Reading (Placed A)) (rest : Placed A → Reading (Placed B)) (n p : ℕ) →
    turned_down n p ≡ next_of x → turned_down n p ≡ next_of (then x rest)
then-refused (accepted a) rest n p e = next-refused (sym e)
then-refused (turned_down m q) rest n p e = e

module _ (sizes : Sizes) (words : List ℕ) where
  pub shapes-more :
      (count at : ℕ) → count ≡ 0 → at < length words → turned_down 12 at ≡ next_of (read_shapes sizes words count at)
  unfolding read_shapes
  shapes-more count at e h = rw e (simp (lt-ltb _ _ h))

  pub shapes-end :
      (count at : ℕ) → count ≡ 0 → length words ≤ at → accepted at ≡ next_of (read_shapes sizes words count at)
  unfolding read_shapes
  shapes-end count at e h = rw e (simp (le-ltb _ _ h))

  pub shapes-next :
      (count at n : ℕ) → accepted n ≡ next_of (read_shape sizes words at) →
      next_of (read_shapes sizes words count n) ≡ next_of (read_shapes sizes words (suc count) at)
  unfolding read_shapes
  shapes-next count at n e = then_next ◌∷◌ (read_shape sizes words at) (read_shapes sizes words count) n e

  pub shapes-refused :
      (count at n p : ℕ) → turned_down n p ≡ next_of (read_shape sizes words at) →
      turned_down n p ≡ next_of (read_shapes sizes words (suc count) at)
  unfolding read_shapes
  shapes-refused count at n p e = then-refused (read_shape sizes words at) _ n p e

-- The first shape and the rest of those that were read.
pub record FirstRead
    (x : Reading (Placed Part)) (rest : ℕ → Reading (Placed (List Part))) (all : Placed (List Part)) : Type 0 where
  pub head : Placed Part
  pub tail : Placed (List Part)
  pub first : x ≡ accepted head
  pub others : rest head.next ≡ accepted tail
  pub whole : all ≡ placed (head.value ∷ tail.value) tail.next

mapped-accepted :
    {A B : Type 0} (f : A → B) (x : Reading (Placed A)) (b : Placed B) → mapped (onto f) x ≡ accepted b →
    (a : Placed A) × (x ≡ accepted a) × (b ≡ onto f a)
mapped-accepted f (accepted a) b e = (a, refl, sym (accepted-same e))
mapped-accepted f (turned_down n p) b e = accepted-turned (sym e)

module _ (sizes : Sizes) (words : List ℕ) where
  pub shapes-first :
      (count at : ℕ) (all : Placed (List Part)) → read_shapes sizes words (suc count) at ≡ accepted all →
      FirstRead (read_shape sizes words at) (read_shapes sizes words count) all
  unfolding read_shapes
  shapes-first count at all e =
      let (head, first, more) = then-accepted (read_shape sizes words at) _ all e in
      let (tail, others, whole) =
      mapped-accepted (◌∷◌ head.value) (read_shapes sizes words count head.next) all more in
      record { head = head; tail = tail; first = first; others = others; whole = whole }

  -- After the last shape nothing is left.
  shapes-last :
      (at : ℕ) (all : Placed (List Part)) → read_shapes sizes words 0 at ≡ accepted all →
      (length words ≤ at) × (all ≡ placed [] at)
  unfolding read_shapes
  shapes-last at all e =
      let w = passed 12 at (ltb at (length words)) (accepted (placed [] at)) all e in
      (ltb-false _ _ w.0, sym (accepted-same w.1))

  -- There is a part for each shape.
  pub shapes-length :
      (count at : ℕ) (all : Placed (List Part)) → read_shapes sizes words count at ≡ accepted all →
      length all.value ≡ count
  shapes-length zero at all e = ap (λ (p : Placed (List Part)). length p.value) (shapes-last at all e).1
  shapes-length (suc count) at all e =
      let w = shapes-first count at all e in
      ap (λ (p : Placed (List Part)). length p.value) w.whole
      ∙ ap suc (shapes-length count w.head.next w.tail w.others)

-- How the table of names is filled, shape by shape.
-- Filling          what holds before each shape: the rows before it are filled, the others are as they were lent
-- filling-start    it holds of any table
-- filling-rest, filling-row   where a table that is all 0 was lent, the rows from the next shape on are all 0, and the
--                  row of that shape has no names
-- filling-next     it holds after that shape was read into its row
-- filling-…        one law for each answer after the loop or in it
-- Assumes nothing.
use mathlib.Core.Path.{◌≡◌, refl, ap, sym, ◌∙◌}
use mathlib.Core.List.{List, [], ◌∷◌}
use Prim.Native.Nat.{ℕ, zero, suc, ◌+◌, ◌-◌, ◌*◌, ◌≤◌, ◌<◌}
use native.Mathlib.Omega.{arith}
use native.Mathlib.Numerals.{add-one}
use borrow.Author.Tests.{ltb-true, ltb-false}
use borrow.Rule.Slice.PartMut.{mid_of, put_mid, same_len_mid, mid_len}
use lib.ListN.{length, get_or, take, drop, replicate}
use lib.Seq.{ext_get_or, get_or-take, get_or-drop}
use lib.Dec.{ltb}
use Rattle.bags.specs.Part.{Part}
use Rattle.bags.specs.Named.{named}
use Rattle.words.specs.Limits.{max_labels, max_shapes}
use Rattle.words.specs.Sizes.{table_size}
use Rattle.words.specs.Reading.{accepted, Reading, turned_down}
use Rattle.words.proofs.Bools.{bool_case}
use Rattle.words.proofs.Cells.{put-before, put-inside, put-after}
use Rattle.parts.specs.declared.Sizes.{Sizes}
use Rattle.parts.specs.Placed.{Placed, placed}
use Rattle.parts.specs.Reading.{no_names}
use Rattle.parts.proofs.Trees.{no-entry}
use Rattle.template.specs.Template.{read_shape, read_shapes}
use Rattle.template.specs.Machine.{next_of, ShapeAnswer, ShapesAnswer}
use Rattle.template.proofs.ShapeLaws.{refused-read, shapes-next, shapes-refused, shapes-more, shapes-end}
use Rattle.template.proofs.ShapeLaws.{FirstRead, shapes-first, shapes-length}

-- Where the row of the shape t starts and ends in the table, and its length as the code has it.
abbrev row_start : ℕ → ℕ
row_start t = t * max_labels

abbrev row_end : ℕ → ℕ
row_end t = t * max_labels + max_labels

abbrev row_span : ℕ → ℕ
row_span t = row_end t - row_start t

-- What holds before the shape t, whose count of words stands at `at`, of a table that was lent as `lent`.
pub record Filling (sizes : Sizes) (words lent names : List ℕ) (at t : ℕ) : Type 0 where
  pub size : length names ≡ table_size
  pub within : t ≤ sizes.shapes
  -- the rows from t on are as they were lent
  pub rest : (j : ℕ) → t * max_labels ≤ j → get_or names j 0 ≡ get_or lent j 0
  -- the answer for the shapes that are left is the answer for all
  pub answer :
      next_of (read_shapes sizes words (sizes.shapes - t) at)
      ≡ next_of (read_shapes sizes words sizes.shapes 2)
  -- if all are read, those that are left are read as the parts from t on
  pub left :
      (all : Placed (List Part)) → read_shapes sizes words sizes.shapes 2 ≡ accepted all →
      read_shapes sizes words (sizes.shapes - t) at ≡ accepted (placed (drop t all.value) all.next)
  -- and the rows before t have the names of their parts
  pub filled :
      (all : Placed (List Part)) → read_shapes sizes words sizes.shapes 2 ≡ accepted all →
      (s k : ℕ) → s < t → k < max_labels → get_or names (s * max_labels + k) 0 ≡ named (get_or all.value s
      Part.nothing) k

-- What is left of a list starts with its next element.
drop-first :
    (t : ℕ) (parts : List Part) (a : Part) (tail : List Part) → drop t parts ≡ a ∷ tail →
    (get_or parts t Part.nothing ≡ a) × (drop (suc t) parts ≡ tail)
drop-first zero [] a tail e = absurd (let z : ◌≡◌ {A = ℕ} 0 1 = cc in omega arith)
drop-first (suc t) [] a tail e = absurd (let z : ◌≡◌ {A = ℕ} 0 1 = cc in omega arith)
drop-first zero (x ∷ xs) a tail e = (cc, cc)
drop-first (suc t) (x ∷ xs) a tail e = drop-first t xs a tail e

pub filling-start :
    (sizes : Sizes) (words names : List ℕ) → length names ≡ table_size → Filling sizes words names names 2 0
filling-start sizes words names e =
    let z : sizes.shapes - 0 ≡ sizes.shapes = omega arith in
    record {
      size = e;
      within = omega arith;
      rest = λ j h. refl;
      answer = rw z;
      left = λ all q. rw z q;
      filled = λ all q s k h i. absurd (omega arith);
    }

module _ {sizes : Sizes} {words lent names : List ℕ} {at t : ℕ} (f : Filling sizes words lent names at t) where
  pub filling-rest : lent ≡ replicate table_size 0 → (j : ℕ) → t * max_labels ≤ j → get_or names j 0 ≡ 0
  filling-rest e j l = f.rest j l ∙ ap (λ (table : List ℕ). get_or table j 0) e ∙ no-entry table_size j

  module _ (h : t < sizes.shapes) (i : sizes.shapes ≤ max_shapes) where
    row-bounds : (row_end t ≤ length names) × (row_span t ≡ max_labels)
    row-bounds = omega (arith, f.size)

    pub filling-row : lent ≡ replicate table_size 0 → take (row_span t) (drop (row_start t) names) ≡ no_names
    filling-row e =
        let l : length (mid_of (row_start t) (row_span t) names) ≡ row_span t
        = mid_len (row_start t) (row_end t) names row-bounds.0 in
        ext_get_or 0 _ no_names (l ∙ row-bounds.1)
        (λ j b.
        get_or-take (row_span t) (drop (row_start t) names) j 0 (omega (arith, l)) ∙ get_or-drop (row_start t)
        names j 0
        ∙ filling-rest e (t * max_labels + j) (omega arith) ∙ sym (no-entry max_labels j))

    one_less : sizes.shapes - t ≡ suc (sizes.shapes - (t + 1))
    one_less = omega arith

    -- The next shape was read into its row.
    module _
        {r : Reading ℕ} (row : List ℕ) (next : ℕ) (b : length row ≡ length (mid_of (row_start t) (row_span t) names))
        (o : r ≡ accepted next) (read : ShapeAnswer (read_shape sizes words at) r row) where
      row-size : length row ≡ row_span t
      row-size = b ∙ mid_len (row_start t) (row_end t) names row-bounds.0

      next-first :
          (all : Placed (List Part)) → read_shapes sizes words sizes.shapes 2 ≡ accepted all →
          FirstRead (read_shape sizes words at) (read_shapes sizes words (sizes.shapes - (t + 1)))
          (placed (drop t all.value) all.next)
      next-first all q =
          shapes-first sizes words (sizes.shapes - (t + 1)) at (placed (drop t all.value) all.next)
          (rw one_less at (f.left all q))

      next_place :
          (all : Placed (List Part)) (q : read_shapes sizes words sizes.shapes 2 ≡ accepted all) →
          next ≡ (next-first all q).head.next
      next_place all q =
          let w = next-first all q in
          let r : accepted next ≡ accepted w.head.next = sym o ∙ read.read ∙ ap next_of w.first in
          cc

      -- The shape that was read is the part of the shape t, and those after it are the rest.
      next-parts :
          (all : Placed (List Part)) (q : read_shapes sizes words sizes.shapes 2 ≡ accepted all) →
          (get_or all.value t Part.nothing ≡ (next-first all q).head.value)
          × (drop (suc t) all.value ≡ (next-first all q).tail.value)
          × (all.next ≡ (next-first all q).tail.next)
      next-parts all q =
          let w = next-first all q in
          let d = drop-first t all.value w.head.value w.tail.value
          (ap (λ (p : Placed (List Part)). p.value) w.whole) in
          (d.0, d.1, ap (λ (p : Placed (List Part)). p.next) w.whole)

      next-left :
          (all : Placed (List Part)) → read_shapes sizes words sizes.shapes 2 ≡ accepted all →
          read_shapes sizes words (sizes.shapes - (t + 1)) next
          ≡ accepted (placed (drop (t + 1) all.value) all.next)
      next-left all q =
          let w = next-first all q in
          let (head, tail, last) = next-parts all q in
          let x : drop (t + 1) all.value ≡ w.tail.value
          = ap (λ (m : ℕ). drop m all.value) (add-one t) ∙ tail in
          ap (read_shapes sizes words (sizes.shapes - (t + 1))) (next_place all q) ∙ w.others
          ∙ ap accepted
          (sym (ap (λ (l : List Part). placed l all.next) x ∙ ap (placed w.tail.value) last))

      next-filled :
          (all : Placed (List Part)) → read_shapes sizes words sizes.shapes 2 ≡ accepted all →
          (s k : ℕ) → s < t + 1 → k < max_labels →
          get_or (put_mid (row_start t) (row_span t) names row) (s * max_labels + k) 0
          ≡ named (get_or all.value s Part.nothing) k
      next-filled all q s k j l =
          bool_case (ltb s t)
          (λ o.
          put-before (row_start t) (row_span t) names row (s * max_labels + k) (omega (arith, row-bounds))
          (omega (arith, ltb-true s t o)) ∙ f.filled all q s k (ltb-true s t o) l)
          (λ o.
          let w = next-first all q in
          let x : s ≡ t = omega (arith, ltb-false s t o) in
          rw x
          (put-inside (row_start t) (row_span t) names row k (omega (arith, row-bounds))
          (omega (arith, row-size, row-bounds)) ∙ read.names w.head w.first k
          ∙ ap (λ (p : Part). named p k) (sym (next-parts all q).0)))

      pub filling-next :
          Filling sizes words lent (put_mid (row_start t) (row_span t) names row) next (t + 1)
      filling-next =
          record {
            size = same_len_mid (row_start t) (row_span t) names row b ∙ f.size;
            within = omega arith;
            rest =
                λ j l.
                put-after (row_start t) (row_end t) names row j (omega arith) row-bounds.0 row-size (omega arith)
                ∙ f.rest j (omega arith);
            answer =
                shapes-next sizes words (sizes.shapes - (t + 1)) at next (sym o ∙ read.read)
                ∙ ap (λ (n : ℕ). next_of (read_shapes sizes words n at)) (sym one_less) ∙ f.answer;
            left = next-left;
            filled = next-filled;
          }

  -- Shapes that are refused have no parts, so any table does.
  no-parts :
      (n p : ℕ) (table : List ℕ) → turned_down n p ≡ next_of (read_shapes sizes words sizes.shapes 2) →
      ShapesAnswer (read_shapes sizes words sizes.shapes 2) (turned_down n p) table
  no-parts n p table e =
      record { read = e; table = λ all o. refused-read (read_shapes sizes words sizes.shapes 2) all e o }

  pub filling-refused :
      {r : Reading ℕ} {row : List ℕ} (n p : ℕ) (table : List ℕ) → t < sizes.shapes → r ≡ turned_down n p →
      ShapeAnswer (read_shape sizes words at) r row →
      ShapesAnswer (read_shapes sizes words sizes.shapes 2) (turned_down n p) table
  filling-refused n p table h q read =
      let o : sizes.shapes - t ≡ suc (sizes.shapes - t - 1) = omega arith in
      no-parts n p table
      (shapes-refused sizes words (sizes.shapes - t - 1) at n p (sym q ∙ read.read)
      ∙ ap (λ (m : ℕ). next_of (read_shapes sizes words m at)) (sym o) ∙ f.answer)

  pub filling-more :
      sizes.shapes ≤ t → at < length words →
      ShapesAnswer (read_shapes sizes words sizes.shapes 2) (turned_down 12 at) names
  filling-more h i =
      no-parts 12 at names (shapes-more sizes words (sizes.shapes - t) at (omega arith) i ∙ f.answer)

  pub filling-end :
      sizes.shapes ≤ t → length words ≤ at →
      ShapesAnswer (read_shapes sizes words sizes.shapes 2) (accepted at) names
  filling-end h i = record {
    read = shapes-end sizes words (sizes.shapes - t) at (omega arith) i ∙ f.answer;
    table = λ all q s k j l.
        f.filled all q s k (omega (arith, shapes-length sizes words sizes.shapes 2 all q)) l;
  }

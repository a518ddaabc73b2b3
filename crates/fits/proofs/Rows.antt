-- The row of a shape in the table of names.
-- row-part    the entries of a row from a place on
-- row_at      the row of a shape; row_inside: it lies in the table
-- row_named   it has the names of the part that stands at the shape's place
-- Assumes nothing.
use Prim.Native.Nat.{ℕ, ◌+◌, ◌-◌, ◌*◌, ◌≤◌, ◌<◌}
use mathlib.Core.Path.{◌≡◌, sym, ap, ◌∙◌}
use mathlib.Core.List.{List}
use native.Mathlib.Omega.{arith}
use borrow.Rule.Slice.PartMut.{mid_len}
use lib.ListN.{length, get_or, take, drop}
use lib.Seq.{get_or-take, get_or-drop}
use Rattle.words.specs.Limits.{max_labels, max_depth}
use Rattle.bags.specs.Label.{incoming, label_of}
use Rattle.bags.specs.Part.{Part}
use Rattle.bags.specs.Named.{named}
use Rattle.template.specs.Template.{part_at, shape_place}
use Rattle.template.proofs.Accepted.{template-accepted}
use Rattle.trees.specs.Trees.{tree_at}
use Rattle.trees.proofs.Agreement.{shape-tree}
use Rattle.sheet.specs.declared.Extent.{Extent}
use Rattle.sheet.specs.Opened.{template_as, Known}
use Rattle.fits.specs.Fitting.{Named}

-- The entries of a row from a place on.
pub row-part :
    (row : List ℕ) (from size k : ℕ) → k < size → get_or (take size (drop from row)) k 0 ≡ get_or row (from + k) 0
row-part row from size k h = get_or-take size (drop from row) k 0 h ∙ get_or-drop from row k 0

-- The row of the shape t in a table of names.
abbrev pub row_at : List ℕ → ℕ → List ℕ
row_at names t = take (t * max_labels + max_labels - t * max_labels) (drop (t * max_labels) names)

module _ (template script names : List ℕ) (e : Extent) (known : Known template script names e) (t : ℕ)
    (l : t < e.shapes) where
  -- the table has room for the row
  pub row_inside : t * max_labels + max_labels ≤ length names
  row_inside =
      let o = known.opened in
      let a = template-accepted template (template_as e.kinds e.shapes o.parts) o.template-read in
      omega (arith, a.shapes-high, known.room)

  row-full : length (row_at names t) ≡ max_labels
  row-full = mid_len (t * max_labels) (t * max_labels + max_labels) names row_inside ∙ omega arith

  -- an entry of the row is one of the table
  entry-is : (k : ℕ) → k < max_labels → get_or (row_at names t) k 0 ≡ get_or names (t * max_labels + k) 0
  entry-is k h = row-part names (t * max_labels) (t * max_labels + max_labels - t * max_labels) k (omega arith)

  pub row_named : (at : ℕ) → at ≡ shape_place template t 2 → Named template (row_at names t) e t at
  row_named at q =
      let o = known.opened in
      let whole = template_as e.kinds e.shapes o.parts in
      let a = template-accepted template whole o.template-read in
      let same : get_or o.parts t Part.nothing ≡ (tree_at max_depth template (part_at template at)).value =
      sym (shape-tree template whole t o.template-read l)
      ∙ ap (λ (n : ℕ). (tree_at max_depth template (part_at template n)).value) (sym q) in
      record {
        below = l;
        place = q;
        names = λ k h.
            entry-is k h ∙ known.table whole o.template-read t k (omega (arith, a.trees-length)) h
            ∙ ap (λ (p : Part). named p k) same;
        asked = record {
          full = row-full;
          few = a.kinds-high;
          ways = λ off k h. entry-is (label_of incoming k) (omega arith) ∙ known.ways off t k l h;
        };
      }

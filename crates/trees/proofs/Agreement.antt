-- A reading that finds a part finds the one that stands at its place.
-- Agrees        what a reading found, with its next place, is a placed part; a refusal agrees with any
-- tree-read     a part that is read is `tree_at`'s
-- shape-tree    the part of an accepted template's shape is `tree_at`'s, where the shape's part starts
-- Assumes nothing.
use mathlib.Core.Path.{◌≡◌, refl, ap, sym}
use mathlib.Core.Bool.{not}
use mathlib.Core.List.{List}
use Prim.Native.Nat.{ℕ, zero, suc, ◌+◌, ◌-◌, ◌≤◌, ◌<◌}
use native.Mathlib.Omega.{arith}
use borrow.Author.Tests.{lt-ltb, leb-false}
use lib.ListN.{length, get_or}
use lib.Dec.{ltb, leb, eqb}
use Rattle.bags.specs.Part.{Part, Parts}
use Rattle.words.specs.Limits.{max_depth, min_group, max_group}
use Rattle.words.specs.Reading.{Reading, accepted, turned_down, then, mapped}
use Rattle.words.proofs.Readings.{refuse-case}
use Rattle.parts.specs.declared.Sizes.{Sizes}
use Rattle.parts.specs.Reading.{Code, code_of, Found, found, into, after, limits_ok, read_link, read_run, read_part}
use Rattle.parts.specs.Reading.{no_names}
use Rattle.parts.specs.Reading.{read_code, read_group}
use Rattle.parts.specs.Placed.{Placed, placed, onto}
use Rattle.template.specs.Template.{part_at, Template, read_template, sizes_of}
use Rattle.template.specs.Template.{shape_place}
use Rattle.template.proofs.Accepted.{template-accepted}
use Rattle.trees.specs.Trees.{link_at, before, trees_at, tree_by, tree_at}

abbrev Agrees : {A : Type 0} → Reading (Found A) → Placed A → Type 0
Agrees (accepted (found a next row)) t = placed a next ≡ t
Agrees (turned_down number place) t = Unit {0}

mapped-agrees :
    {A B : Type 0} (f : A → B) (r : Reading (Found A)) (t : Placed A) → Agrees r t →
    Agrees (mapped (into f) r) (onto f t)
mapped-agrees f (accepted (found a next row)) t h = ap (onto f) h
mapped-agrees f (turned_down number place) t h = tt

then_agrees :
    (r : Reading (Found Part)) (t : Placed Part) (g : ℕ → List ℕ → Reading (Found Parts)) (u : ℕ → Placed Parts) →
    Agrees r t → ((next : ℕ) (row : List ℕ) → Agrees (g next row) (u next)) →
    Agrees (then r (after (λ p next row. mapped (into (Parts.more p)) (g next row)))) (before t u)
then_agrees (accepted (found p next row)) t g u h rest =
    rw (← h) (mapped-agrees (Parts.more p) (g next row) (u next) (rest next row))
then_agrees (turned_down number place) t g u h rest = tt

run-agrees :
    (f : ℕ → List ℕ → Reading (Found Part)) (g : ℕ → Placed Part) →
    ((at : ℕ) (row : List ℕ) → Agrees (f at row) (g at)) →
    (n at : ℕ) (row : List ℕ) → Agrees (read_run f n at row) (trees_at g n at)
unfolding read_run trees_at
run-agrees f g h zero at row = refl
run-agrees f g h (suc n) at row =
    then_agrees (f at row) (g at) (read_run f n) (trees_at g n) (h at row) (λ next left. run-agrees f g h n next left)

module _ (words : List ℕ) (end : ℕ) (sizes : Sizes) where
  link-agrees :
      (at : ℕ) (row : List ℕ) (first kind : ℕ) →
      Agrees (read_link words end sizes at row first kind) (link_at words at (first + kind))
  unfolding read_link
  link-agrees at row first kind =
      let P : Reading (Found Part) → Type 0 = λ r. Agrees r (link_at words at (first + kind)) in
      refuse-case 4 end P (ltb (end - at) 4) _ (λ e. tt)
      (λ e. refuse-case 7 at P (leb sizes.kinds kind) _ (λ e₂. tt)
      (λ e₂. refuse-case 8 at P (not (eqb (get_or row (first + kind) 0) 0)) _ (λ e₃. tt)
      (λ e₃. refuse-case 9 (at + 1) P (leb sizes.shapes (get_or words (at + 1) 0)) _ (λ e₄. tt)
      (λ e₄. refuse-case 10 (at + 2) P (not (limits_ok (get_or words (at + 2) 0) (get_or words (at + 3) 0))) _ (λ
      e₅. tt)
      (λ e₅. refl)))))

  code-agrees :
      (k : Code) (f : ℕ → List ℕ → Reading (Found Part)) (g : ℕ → Placed Part) (at : ℕ) (row : List ℕ) →
      ((next : ℕ) (row : List ℕ) → Agrees (f next row) (g next)) →
      Agrees (read_code k f words end sizes at row) (tree_by k g words at)
  code-agrees Code.nothing f g at row h = refl
  code-agrees Code.opening f g at row h = tt
  code-agrees Code.unknown f g at row h = tt
  code-agrees (Code.single w) f g at row h = mapped-agrees w (f (at + 1) row) (g (at + 1)) (h (at + 1) row)
  code-agrees (Code.group w) f g at row h =
      let t : Placed Parts = trees_at g (get_or words (at + 1) 0) (at + 2) in
      let P : Reading (Found Parts) → Type 0 = λ r. Agrees r t in
      mapped-agrees w (read_group f words end at row) t
      (refuse-case 4 end P (ltb (end - at) 2) _ (λ e. tt)
      (λ e. refuse-case 11 (at + 1) P (ltb (get_or words (at + 1) 0) min_group) _ (λ e₂. tt)
      (λ e₂. refuse-case 11 (at + 1) P (ltb max_group (get_or words (at + 1) 0)) _ (λ e₃. tt)
      (λ e₃. run-agrees f g h (get_or words (at + 1) 0) (at + 2) row))))
  code-agrees (Code.link first kind) f g at row h = link-agrees at row first kind

  part-agrees :
      (left at : ℕ) (row : List ℕ) → end ≤ length words →
      Agrees (read_part left words end sizes at row) (tree_at left words at)
  unfolding read_part tree_at
  part-agrees zero at row h =
      refuse-case 4 end (λ (r : Reading (Found Part)). Agrees r (placed Part.nothing at)) (leb end at) _ (λ e. tt)
      (λ e. tt)
  part-agrees (suc left) at row h =
      refuse-case 4 end (λ (r : Reading (Found Part)). Agrees r (tree_at (suc left) words at)) (leb end at) _ (λ e. tt)
      (λ e.
      let i = leb-false end at e in
      let j : at < length words = omega arith in
      rw (lt-ltb at (length words) j)
      (code-agrees (code_of (get_or words at 0)) (read_part left words end sizes) (tree_at left words) at row
      (λ next row. part-agrees left next row h)))

  -- A part that is read is the one at its place.
  pub tree-read :
      (left at : ℕ) (row : List ℕ) (p : Part) (next : ℕ) (names : List ℕ) → end ≤ length words →
      read_part left words end sizes at row ≡ accepted (found p next names) → placed p next ≡ tree_at left words at
  tree-read left at row p next names h e = rw e at (part-agrees left at row h)

-- The part of an accepted template's shape is the one where the shape's part starts.
pub shape-tree :
    (words : List ℕ) (t : Template) (s : ℕ) → read_template words ≡ accepted t → s < t.shapes →
    (tree_at max_depth words (part_at words (shape_place words s 2))).value ≡ get_or t.parts s Part.nothing
shape-tree words t s e h =
    let shape = (template-accepted words t e).shape s h in
    ap (λ (p : Placed Part). p.value)
    (sym (tree-read words _ (sizes_of t.kinds t.shapes) max_depth _ no_names _ _ _ shape.inside shape.whole))

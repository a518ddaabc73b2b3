-- Laws of specs/Reading: what reading a link, and a part, is under the tests that lead to each answer of the code.
-- mapped-outcome   what is made of a part changes no answer
-- link-…           a link: one law for each refusal, and `link-good`
-- Coded            a part has its code, and may stand at this depth
-- part-…, group-…  a part by its code, and a group
-- Assumes nothing.
use mathlib.Core.Path.{◌≡◌, refl, ap, ◌∙◌}
use mathlib.Core.Bool.{true, false}
use mathlib.Core.List.{List}
use Prim.Native.Nat.{ℕ, zero, suc, ◌+◌, ◌-◌, ◌≤◌, ◌<◌}
use native.Mathlib.Omega.{arith}
use native.Mathlib.Numerals.{sub-one}
use borrow.Author.Tests.{le-ltb, lt-ltb, le-leb, lt-leb, eq-eqb, ne_eqb}
use lib.ListN.{get_or, set}
use Rattle.bags.specs.Label.{Way, outgoing, incoming, first_label, label_of}
use Rattle.words.specs.Limits.{max_kinds}
use Rattle.words.specs.Reading.{Reading, accepted, turned_down, mapped}
use Rattle.parts.specs.declared.Sizes.{Sizes}
use Rattle.parts.specs.Reading.{Code, nothing, single, group, opening, unknown, link, wrapped, gathered, code_of}
use Rattle.parts.specs.Reading.{Found, found, into, limits_ok, read_link, read_run, read_group, read_code, read_part}
use Rattle.parts.specs.Machine.{Step, shown, outcome}
use Rattle.parts.proofs.Codes.{code-nothing, code-single, code-low, code-group, code-open, code-middle}
use Rattle.parts.proofs.Codes.{code-link, code-high}

-- What is made of a part changes no answer.
pub mapped-outcome : {A B : Type 0} (f : A → B) (x : Reading (Found A)) → outcome x ≡ outcome (mapped (into f) x)
mapped-outcome f (accepted (found a next row)) = refl
mapped-outcome f (turned_down number place) = refl

-- A link, in the order of its refusals.
module _ (words : List ℕ) (end : ℕ) (sizes : Sizes) (at : ℕ) (row : List ℕ) (first kind : ℕ) where
  pub link-short : end - at < 4 → shown (turned_down 4 end) row ≡ outcome (read_link words end sizes at row first kind)
  unfolding read_link shown
  link-short h = simp (lt-ltb _ _ h)

  pub link-kind :
      4 ≤ end - at → sizes.kinds ≤ kind →
      shown (turned_down 7 at) row ≡ outcome (read_link words end sizes at row first kind)
  unfolding read_link shown
  link-kind h i = simp (le-ltb _ _ h, le-leb _ _ i)

  pub link-again :
      4 ≤ end - at → kind < sizes.kinds → (get_or row (first + kind) 0 ≡ 0 → ⊥) →
      shown (turned_down 8 at) row ≡ outcome (read_link words end sizes at row first kind)
  unfolding read_link shown
  link-again h i j = simp (le-ltb _ _ h, lt-leb _ _ i, ne_eqb _ _ j)

  pub link-shape :
      4 ≤ end - at → kind < sizes.kinds → get_or row (first + kind) 0 ≡ 0 →
      sizes.shapes ≤ get_or words (at + 1) 0 →
      shown (turned_down 9 (at + 1)) row ≡ outcome (read_link words end sizes at row first kind)
  unfolding read_link shown
  link-shape h i e j = simp (le-ltb _ _ h, lt-leb _ _ i, eq-eqb _ _ e, le-leb _ _ j)

  pub link-good :
      (entry : ℕ) → 4 ≤ end - at → kind < sizes.kinds → get_or row (first + kind) 0 ≡ 0 →
      get_or words (at + 1) 0 < sizes.shapes → entry ≡ get_or words (at + 1) 0 + 1 →
      limits_ok (get_or words (at + 2) 0) (get_or words (at + 3) 0) ≡ true →
      shown (accepted (at + 4)) (set row (first + kind) entry) ≡ outcome (read_link words end sizes at row first kind)
  unfolding read_link shown
  link-good entry h i e j q o = simp (q, le-ltb _ _ h, lt-leb _ _ i, eq-eqb _ _ e, lt-leb _ _ j, o)

  pub link-limits :
      4 ≤ end - at → kind < sizes.kinds → get_or row (first + kind) 0 ≡ 0 →
      get_or words (at + 1) 0 < sizes.shapes →
      limits_ok (get_or words (at + 2) 0) (get_or words (at + 3) 0) ≡ false →
      shown (turned_down 10 (at + 2)) row ≡ outcome (read_link words end sizes at row first kind)
  unfolding read_link shown
  link-limits h i e j o = simp (le-ltb _ _ h, lt-leb _ _ i, eq-eqb _ _ e, lt-leb _ _ j, o)

-- A part whose code is missing, or that stands too deep; else it is read by its code.
module _ (words : List ℕ) (end : ℕ) (sizes : Sizes) (at : ℕ) (row : List ℕ) where
  pub part-missing :
      (left : ℕ) → end ≤ at → shown (turned_down 4 end) row ≡ outcome (read_part left words end sizes at row)
  unfolding read_part shown
  part-missing zero h = simp (le-leb _ _ h)
  part-missing (suc l) h = simp (le-leb _ _ h)

  pub part-deep :
      (left : ℕ) → at < end → left ≡ 0 → shown (turned_down 6 at) row ≡ outcome (read_part left words end sizes at row)
  unfolding read_part shown
  part-deep left h e = rw e (simp (lt-leb _ _ h))

  part_by :
      (left : ℕ) (code : Code) → at < end → 0 < left → code_of (get_or words at 0) ≡ code →
      read_code code (read_part (left - 1) words end sizes) words end sizes at row
      ≡ read_part left words end sizes at row
  unfolding read_part
  part_by zero code h p e = absurd (omega arith)
  part_by (suc l) code h p e = rw (sub-one, ← e) (simp (lt-leb _ _ h))

-- A part has its code, and may stand at this depth.
pub record Coded (left : ℕ) (words : List ℕ) (end : ℕ) (sizes : Sizes) (at : ℕ) (row : List ℕ) : Type 0 where
  pub code_in : at < end
  pub level : 0 < left

-- Such a part, by its code: what is asked of it is what the tests in the order of `code_of` tell.
module _
    {left : ℕ} {words : List ℕ} {end : ℕ} {sizes : Sizes} {at : ℕ} {row : List ℕ}
    (here : Coded left words end sizes at row) where
  by_code :
      (code : Code) → code_of (get_or words at 0) ≡ code →
      outcome (read_code code (read_part (left - 1) words end sizes) words end sizes at row)
      ≡ outcome (read_part left words end sizes at row)
  by_code code e = ap outcome (part_by words end sizes at row left code here.code_in here.level e)

  pub part-nothing :
      get_or words at 0 ≡ 0 → shown (accepted (at + 1)) row ≡ outcome (read_part left words end sizes at row)
  unfolding shown
  part-nothing e = by_code nothing (code-nothing (get_or words at 0) e)

  pub part-single :
      {x : Reading Step} → (get_or words at 0 ≡ 0 → ⊥) → get_or words at 0 < 4 →
      x ≡ outcome (read_part (left - 1) words end sizes (at + 1) row) →
      x ≡ outcome (read_part left words end sizes at row)
  part-single a b read =
      read ∙ mapped-outcome (wrapped (get_or words at 0)) (read_part (left - 1) words end sizes (at + 1) row)
      ∙ by_code (single (wrapped (get_or words at 0))) (code-single (get_or words at 0) (omega arith) (omega arith))

  pub part_low :
      4 ≤ get_or words at 0 → get_or words at 0 < 16 →
      shown (turned_down 5 at) row ≡ outcome (read_part left words end sizes at row)
  unfolding shown
  part_low a b = by_code unknown (code-low (get_or words at 0) a (omega arith))

  pub part-open :
      get_or words at 0 ≡ 18 → shown (turned_down 64 at) row ≡ outcome (read_part left words end sizes at row)
  unfolding shown
  part-open e = by_code opening (code-open (get_or words at 0) e)

  pub part-middle :
      18 ≤ get_or words at 0 → (get_or words at 0 ≡ 18 → ⊥) → get_or words at 0 < 256 →
      shown (turned_down 5 at) row ≡ outcome (read_part left words end sizes at row)
  unfolding shown
  part-middle a b c = by_code unknown (code-middle (get_or words at 0) (omega arith) (omega arith))

  part-link :
      (way : Way) (kind : ℕ) → kind < max_kinds → get_or words at 0 ≡ 256 + label_of way kind →
      outcome (read_link words end sizes at row (first_label way) kind)
      ≡ outcome (read_part left words end sizes at row)
  part-link way kind a e = by_code (link (first_label way) kind) (code-link way kind (get_or words at 0) a e)

  pub part-outgoing :
      {x : Reading Step} → 256 ≤ get_or words at 0 → get_or words at 0 < 320 →
      x ≡ outcome (read_link words end sizes at row 0 (get_or words at 0 - 256)) →
      x ≡ outcome (read_part left words end sizes at row)
  part-outgoing a b read = read ∙ part-link outgoing (get_or words at 0 - 256) (omega arith) (omega arith)

  pub part-incoming :
      {x : Reading Step} → 320 ≤ get_or words at 0 → get_or words at 0 < 384 →
      x ≡ outcome (read_link words end sizes at row max_kinds (get_or words at 0 - 320)) →
      x ≡ outcome (read_part left words end sizes at row)
  part-incoming a b read = read ∙ part-link incoming (get_or words at 0 - 320) (omega arith) (omega arith)

  pub part-high :
      384 ≤ get_or words at 0 → shown (turned_down 5 at) row ≡ outcome (read_part left words end sizes at row)
  unfolding shown
  part-high a = by_code unknown (code-high (get_or words at 0) a)

  module _ (a : 16 ≤ get_or words at 0) (b : get_or words at 0 < 18) where
    by-group :
        outcome (read_group (read_part (left - 1) words end sizes) words end at row)
        ≡ outcome (read_part left words end sizes at row)
    by-group =
        mapped-outcome (gathered (get_or words at 0)) (read_group (read_part (left - 1) words end sizes) words end
        at row)
        ∙ by_code (group (gathered (get_or words at 0))) (code-group (get_or words at 0) a (omega arith))

    pub group-short : end - at < 2 → shown (turned_down 4 end) row ≡ outcome (read_part left words end sizes at row)
    unfolding shown
    group-short i = simp (lt-ltb (end - at) 2 i) at by-group

    pub group-few :
        2 ≤ end - at → get_or words (at + 1) 0 < 2 →
        shown (turned_down 11 (at + 1)) row ≡ outcome (read_part left words end sizes at row)
    unfolding shown
    group-few i j = simp (le-ltb (end - at) 2 i, lt-ltb _ 2 j) at by-group

    pub group-many :
        2 ≤ end - at → 16 < get_or words (at + 1) 0 →
        shown (turned_down 11 (at + 1)) row ≡ outcome (read_part left words end sizes at row)
    unfolding shown
    group-many i j =
        let k : 2 ≤ get_or words (at + 1) 0 = omega arith in
        simp (le-ltb (end - at) 2 i, le-ltb _ 2 k, lt-ltb 16 _ j) at by-group

    pub group-run :
        {x : Reading Step} → 2 ≤ end - at → 2 ≤ get_or words (at + 1) 0 → get_or words (at + 1) 0 ≤ 16 →
        x ≡ outcome (read_run (read_part (left - 1) words end sizes) (get_or words (at + 1) 0) (at + 2) row) →
        x ≡ outcome (read_part left words end sizes at row)
    group-run i j k read = read ∙ simp (le-ltb (end - at) 2 i, le-ltb _ 2 j, le-ltb 16 _ k) at by-group

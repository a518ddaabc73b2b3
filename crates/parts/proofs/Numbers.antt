-- Which numbers a part is refused with: 4 to 11, and 64.
-- PartNumber     a number of a part's refusals
-- part-numbers   a part that is refused is refused with one of them
-- Assumes nothing.
use mathlib.Core.Path.{◌≡◌, refl}
use mathlib.Core.Logic.{◌⊎◌, inl, inr}
use mathlib.Core.Bool.{Bool, not}
use mathlib.Core.List.{List}
use Prim.Native.Nat.{ℕ, zero, suc, ◌+◌, ◌-◌, ◌≤◌}
use native.Mathlib.Omega.{arith}
use lib.ListN.{get_or}
use lib.Dec.{ltb, leb, eqb}
use Rattle.bags.specs.Part.{Part, Parts}
use Rattle.words.specs.Limits.{min_group, max_group}
use Rattle.words.specs.Reading.{Reading, refuse, mapped}
use Rattle.words.proofs.Readings.{Numbered, refuse-numbered, then-numbered, mapped-numbered}
use Rattle.parts.specs.declared.Sizes.{Sizes}
use Rattle.parts.specs.Reading.{Code, nothing, single, group, opening, unknown, link, code_of, Found, found}
use Rattle.parts.specs.Reading.{into, after, limits_ok, read_link, read_run, read_group, read_code, read_part}

-- A number of a part's refusals.
abbrev pub PartNumber : ℕ → Type 0
PartNumber n = ((4 ≤ n) × (n ≤ 11)) ⊎ (n ≡ 64)

-- One test of a decision list.
module _ {A : Type 0} where
  tested :
      (number place : ℕ) (test : Bool) (rest : Reading A) → 4 ≤ number → number ≤ 11 →
      Numbered PartNumber rest → Numbered PartNumber (refuse number place test rest)
  tested number place test rest low high h = refuse-numbered PartNumber number place test rest (inl (low, high)) h

after-numbers :
    {A B : Type 0} (rest : A → ℕ → List ℕ → Reading B) (f : Found A) →
    ((a : A) (next : ℕ) (row : List ℕ) → Numbered PartNumber (rest a next row)) →
    Numbered PartNumber (after rest f)
after-numbers rest (found a next row) h = h a next row

run-numbers :
    (inner : ℕ → List ℕ → Reading (Found Part)) →
    ((at : ℕ) (row : List ℕ) → Numbered PartNumber (inner at row)) →
    (n at : ℕ) (row : List ℕ) → Numbered PartNumber (read_run inner n at row)
unfolding read_run
run-numbers inner h zero at row = tt
run-numbers inner h (suc n) at row =
    then-numbered PartNumber (inner at row) _ (h at row)
    (λ f.
    after-numbers (λ p next left. mapped (into (Parts.more p)) (read_run inner n next left)) f
    (λ p next left.
    mapped-numbered PartNumber (into (Parts.more p)) (read_run inner n next left)
    (run-numbers inner h n next left)))

module _ (words : List ℕ) (end : ℕ) (sizes : Sizes) where
  link-numbers :
      (at : ℕ) (row : List ℕ) (first kind : ℕ) → Numbered PartNumber (read_link words end sizes at row first kind)
  unfolding read_link
  link-numbers at row first kind =
      tested 4 end (ltb (end - at) 4) _ (omega arith) (omega arith)
      (tested 7 at (leb sizes.kinds kind) _ (omega arith) (omega arith)
      (tested 8 at (not (eqb (get_or row (first + kind) 0) 0)) _ (omega arith) (omega arith)
      (tested 9 (at + 1) (leb sizes.shapes (get_or words (at + 1) 0)) _ (omega arith) (omega arith)
      (tested 10 (at + 2) (not (limits_ok (get_or words (at + 2) 0) (get_or words (at + 3) 0))) _ (omega arith)
      (omega arith)
      tt))))

  code-numbers :
      (code : Code) (inner : ℕ → List ℕ → Reading (Found Part)) (at : ℕ) (row : List ℕ) →
      ((next : ℕ) (left : List ℕ) → Numbered PartNumber (inner next left)) →
      Numbered PartNumber (read_code code inner words end sizes at row)
  code-numbers nothing inner at row h = tt
  code-numbers (single f) inner at row h =
      mapped-numbered PartNumber (into f) (inner (at + 1) row) (h (at + 1) row)
  code-numbers (group f) inner at row h =
      mapped-numbered PartNumber (into f) (read_group inner words end at row)
      (tested 4 end (ltb (end - at) 2) _ (omega arith) (omega arith)
      (tested 11 (at + 1) (ltb (get_or words (at + 1) 0) min_group) _ (omega arith) (omega arith)
      (tested 11 (at + 1) (ltb max_group (get_or words (at + 1) 0)) _ (omega arith) (omega arith)
      (run-numbers inner h (get_or words (at + 1) 0) (at + 2) row))))
  code-numbers (link first kind) inner at row h = link-numbers at row first kind
  code-numbers opening inner at row h = inr refl
  code-numbers unknown inner at row h = inl (omega arith, omega arith)

  pub part-numbers : (left at : ℕ) (row : List ℕ) → Numbered PartNumber (read_part left words end sizes at row)
  unfolding read_part
  part-numbers zero at row =
      tested {A = Found Part} 4 end (leb end at) _ (omega arith) (omega arith) (inl (omega arith, omega arith))
  part-numbers (suc left) at row =
      tested 4 end (leb end at) _ (omega arith) (omega arith)
      (code-numbers (code_of (get_or words at 0)) (read_part left words end sizes) at row (part-numbers left))

-- Laws of the grid judge's input: what reading it gives under the tests that lead there.
--   no-grid, grid-apart          the faults after the files
--   grid-read                    else the desk and the grid
--   desk-is, grid-is             these, by where the files end and by the count that stands there
--   judge-input-numbers          an input is refused with 60
-- Assumes nothing.
use Prim.Native.Nat.{ℕ, ◌+◌, ◌-◌, ◌≤◌, ◌<◌}
use mathlib.Core.Path.{◌≡◌, refl, ap, ap₂, ◌∙◌}
use mathlib.Core.Bool.{Bool, false}
use mathlib.Core.List.{List}
use native.Mathlib.Omega.{arith}
use lib.Dec.{ltb}
use lib.ListN.{length, take, drop}
use mathlib.Core.Logic.{inl, inr}
use borrow.Author.Tests.{lt-ltb, le-ltb}
use Rattle.std.proofs.lemmas.Bool.{cases_lt}
use Rattle.words.specs.Reading.{Reading, accepted, turned_down, refuse}
use Rattle.words.proofs.Readings.{refused, Numbered, refuse-numbered, then-numbered}
use Rattle.input.specs.Input.{word_at, input_end, Input, read_front}
use Rattle.input.proofs.Inputs.{front-numbers}
use Rattle.judge_line.specs.JudgeInput.{max_judged, grid_start, grid_size, grid_end, JudgeInput, judge_input_of}
use Rattle.judge_line.specs.JudgeInput.{read_grid, read_judge_input}

-- a test that finds no fault
passes : (test : Bool) {rest reading : Reading JudgeInput} → test ≡ false → rest ≡ reading
    → refuse 60 0 test rest ≡ reading
passes test {rest} e f = ap (λ (b : Bool). refuse 60 0 b rest) e ∙ f

-- The files end at a byte, and after the desk there stands a count.
module _ (bytes : List ℕ) {end : ℕ} (ends : end ≡ input_end bytes) where
  pub desk-is : {desk : ℕ} → desk ≡ word_at bytes end → desk ≡ word_at bytes (input_end bytes)
  desk-is e = e ∙ ap (word_at bytes) ends

  pub no-grid : (files : Input) → length bytes < end + 4 → read_grid bytes files ≡ turned_down 60 0
  unfolding read_grid
  no-grid files l = refused 60 0 _ _ (lt-ltb (length bytes) (grid_start bytes) (omega (arith, ends)))

  module _ {count : ℕ} (counts : count ≡ word_at bytes (end + 2)) where
    size_is : count ≡ grid_size bytes
    size_is = counts ∙ ap (λ (p : ℕ). word_at bytes (p + 2)) ends

    pub grid-is : length bytes ≡ end + 4 + count → take (length bytes - (end + 4)) (drop (end + 4) bytes)
        ≡ take (grid_size bytes) (drop (grid_start bytes) bytes)
    grid-is whole =
        let many : length bytes - (end + 4) ≡ grid_size bytes = omega (arith, size_is) in
        let from : end + 4 ≡ grid_start bytes = omega (arith, ends) in
        ap₂ (λ (n p : ℕ). take n (drop p bytes)) many from

    module _ (files : Input) (some : end + 4 ≤ length bytes) where
      starts : ltb (length bytes) (grid_start bytes) ≡ false
      starts = le-ltb (length bytes) (grid_start bytes) (omega (arith, ends))

      pub grid-apart : (length bytes ≡ end + 4 + count → ⊥) → read_grid bytes files ≡ turned_down 60 0
      unfolding read_grid
      grid-apart apart = elim (cases_lt (length bytes) (end + 4 + count)) [
        | inl short ↦ passes _ starts (refused 60 0 _ _ (lt-ltb (length bytes) (grid_end bytes) (omega (
          arith,
          ends,
          size_is,
        ))))
        | inr long ↦ passes _ starts (passes _ (le-ltb (length bytes) (grid_end bytes) (omega (arith, ends, size_is)))
            (refused 60 0 _ _ (lt-ltb (grid_end bytes) (length bytes) (omega (arith, ends, size_is, apart)))))
      ]

      pub grid-read : length bytes ≡ end + 4 + count → read_grid bytes files ≡ accepted (judge_input_of bytes files)
      unfolding read_grid
      grid-read whole =
          passes _ starts
          (passes _ (le-ltb (length bytes) (grid_end bytes) (omega (arith, ends, size_is)))
          (passes _ (le-ltb (grid_end bytes) (length bytes) (omega (arith, ends, size_is))) refl))

-- The number that an input is refused with.
abbrev InputNumber : ℕ → Type 0
InputNumber number = number ≡ 60

pub judge-input-numbers : (bytes : List ℕ) → Numbered InputNumber (read_judge_input bytes)
unfolding read_grid read_judge_input
judge-input-numbers bytes =
    then-numbered InputNumber (read_front max_judged bytes) (read_grid bytes) (front-numbers max_judged bytes)
    (λ files. refuse-numbered InputNumber 60 0 (ltb (length bytes) (grid_start bytes)) _ refl
    (refuse-numbered InputNumber 60 0 (ltb (length bytes) (grid_end bytes)) _ refl
    (refuse-numbered InputNumber 60 0 (ltb (grid_end bytes) (length bytes)) _ refl tt)))

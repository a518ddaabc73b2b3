-- How a run of parts is read, part by part.
-- run-…               a run of no parts, one whose first part is refused, and one whose first part is read
-- Remaining           what holds before each part: reading those that are left comes to what reading them all does
-- remaining-start     it holds before the first part
-- remaining-next      it holds after one part more
-- remaining-refused   a part that is refused: the run's answer
-- remaining-end       none is left: the run's answer
-- Assumes nothing.
use mathlib.Core.Path.{◌≡◌, refl, sym, ◌∙◌}
use mathlib.Core.List.{List}
use Prim.Native.Nat.{ℕ, zero, suc, ◌-◌, ◌≤◌, ◌<◌}
use native.Mathlib.Omega.{arith}
use native.Mathlib.Numerals.{sub-one}
use lib.ListN.{length}
use Rattle.bags.specs.Part.{Part, Parts}
use Rattle.words.specs.Reading.{Reading, accepted, turned_down, then, mapped}
use Rattle.words.proofs.Readings.{accepted-turned}
use Rattle.parts.specs.declared.Sizes.{Sizes}
use Rattle.parts.specs.Reading.{Found, found, into, after, read_part, read_run}
use Rattle.parts.specs.Machine.{shown, outcome}
use Rattle.parts.proofs.Laws.{mapped-outcome}
use Rattle.parts.proofs.Places.{next-same, reads-above}

-- A run of parts, each read by `inner`.
then_next :
    (x : Reading (Found Part)) (rest : ℕ → List ℕ → Reading (Found Parts)) (m : ℕ) (row : List ℕ) →
    shown (accepted m) row ≡ outcome x →
    outcome (rest m row) ≡ outcome (then x (after (λ p next row'. mapped (into (Parts.more p)) (rest next row'))))
unfolding shown
then_next (accepted (found a n row')) rest m row e =
    rw ((next-same e).0, (next-same e).1) (mapped-outcome (Parts.more a) (rest n row'))
then_next (turned_down n p) rest m row e = accepted-turned e

then-refused :
    (x : Reading (Found Part)) (rest : Found Part → Reading (Found Parts)) (n p : ℕ) (row : List ℕ) →
    shown (turned_down n p) row ≡ outcome x → shown (turned_down n p) row ≡ outcome (then x rest)
unfolding shown
then-refused (accepted (found a m row')) rest n p row e = accepted-turned (sym e)
then-refused (turned_down n' p') rest n p row e = e

module _ (inner : ℕ → List ℕ → Reading (Found Part)) where
  run_none :
      (count at : ℕ) (row : List ℕ) → count ≡ 0 → shown (accepted at) row ≡ outcome (read_run inner count at row)
  unfolding read_run shown
  run_none count at row e = rw e

  run-refused :
      (count at : ℕ) (row : List ℕ) (n p : ℕ) (row' : List ℕ) → 0 < count →
      shown (turned_down n p) row' ≡ outcome (inner at row) →
      shown (turned_down n p) row' ≡ outcome (read_run inner count at row)
  unfolding read_run
  run-refused zero at row n p row' h e = absurd (omega arith)
  run-refused (suc c) at row n p row' h e = then-refused (inner at row) _ n p row' e

  run-next :
      (count at : ℕ) (row : List ℕ) (m : ℕ) (row' : List ℕ) → 0 < count →
      shown (accepted m) row' ≡ outcome (inner at row) →
      outcome (read_run inner (count - 1) m row') ≡ outcome (read_run inner count at row)
  unfolding read_run
  run-next zero at row m row' h e = absurd (omega arith)
  run-next (suc c) at row m row' h e = rw sub-one (then_next (inner at row) (read_run inner c) m row' e)

-- Of `count` parts from `at` on, read into the row `before`, `more` are left, from `next` on, and `row` is the row now.
pub record Remaining
    (left : ℕ) (words : List ℕ) (end : ℕ) (sizes : Sizes) (count at : ℕ) (before : List ℕ) (more next : ℕ)
    (row : List ℕ) : Type 0 where
  pub order : at ≤ next
  pub size : length row ≡ length before
  pub answer :
      outcome (read_run (read_part left words end sizes) more next row)
      ≡ outcome (read_run (read_part left words end sizes) count at before)

pub remaining-start :
    (left : ℕ) (words : List ℕ) (end : ℕ) (sizes : Sizes) (count at : ℕ) (before : List ℕ) →
    Remaining left words end sizes count at before count at before
remaining-start left words end sizes count at before = record { order = omega arith; size = refl; answer = refl }

module _
    {left : ℕ} {words : List ℕ} {end : ℕ} {sizes : Sizes} {count at : ℕ} {before : List ℕ} {more next : ℕ}
    {row : List ℕ} (so_far : Remaining left words end sizes count at before more next row) where
  -- The next part was read, or refused.
  module _ (row' : List ℕ) (some : 0 < more) where
    pub remaining-next :
        (place : ℕ) → shown (accepted place) row' ≡ outcome (read_part left words end sizes next row) →
        length row' ≡ length row → Remaining left words end sizes count at before (more - 1) place row'
    remaining-next place e same =
        let above = reads-above left words end sizes next row place row' e in
        record {
          order = omega (arith, so_far.order, above.0);
          size = same ∙ so_far.size;
          answer = run-next (read_part left words end sizes) more next row place row' some e ∙ so_far.answer;
        }

    pub remaining-refused :
        (number place : ℕ) → shown (turned_down number place) row' ≡ outcome (read_part left words end sizes next row) →
        shown (turned_down number place) row' ≡ outcome (read_run (read_part left words end sizes) count at before)
    remaining-refused number place e =
        run-refused (read_part left words end sizes) more next row number place row' some e ∙ so_far.answer

  pub remaining-end :
      more ≡ 0 → shown (accepted next) row ≡ outcome (read_run (read_part left words end sizes) count at before)
  remaining-end none = run_none (read_part left words end sizes) more next row none ∙ so_far.answer

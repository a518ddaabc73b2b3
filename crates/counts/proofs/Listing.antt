-- Counts that all stand in a list, with no links to count off, held against the shape at a place of the words.
-- no-links      there is no link whose kind could fall
-- list-ready    what evaluating a part by the list asks
-- listed-all    a label's count is the one in the list
-- fits-open, fits-closed, fits_not   whether counts fit the shape, open or closed
-- Assumes nothing.
use Prim.Native.Nat.{ℕ, ◌+◌, ◌-◌, ◌≤◌}
use mathlib.Core.Path.{◌≡◌, sym, ap, fun_ext, ◌∙◌}
use mathlib.Core.Bool.{Bool, true, false, ◌||◌}
use mathlib.Core.List.{List, []}
use native.Mathlib.Omega.{arith}
use lib.ListN.{length, get_or}
use Rattle.words.specs.Limits.{max_labels, max_template, max_depth}
use Rattle.words.proofs.Bools.{or_left, or_right}
use Rattle.bags.specs.Part.{Part}
use Rattle.bags.specs.Bag.{count}
use Rattle.bags.specs.Interval.{interval, inside, others_zero, fits}
use Rattle.template.specs.Template.{open_at, part_at}
use Rattle.template.proofs.Opening.{part-open, part-closed}
use Rattle.links.specs.Runs.{amount, KindsRise}
use Rattle.links.proofs.Runs.{amount-listed}
use Rattle.trees.specs.Trees.{tree_at}
use Rattle.evaluator.specs.Machine.{Evaluable}
use Rattle.evaluator.proofs.Testing.{fits-passed, fits-failed}

no-links : KindsRise []
no-links =
    record { many = 0; size = omega arith; few = omega arith; rising = λ i j a b. absurd (omega arith) }

pub list-ready :
    (words counts : List ℕ) → length words ≤ max_template → length counts ≡ max_labels → Evaluable words [] counts
list-ready words counts short full =
    record { short = short; source = record { rise = no-links; few = omega arith } }

pub listed-all : (counts : List ℕ) → length counts ≡ max_labels → amount [] counts ≡ count counts
listed-all counts full = fun_ext (λ k.
    let same : k - (max_labels - length counts) ≡ k = omega arith in
    amount-listed [] counts k (omega arith) ∙ ap (λ (n : ℕ). get_or counts n 0) same)

-- Counts and the shape whose count of words stands at a place.
module _ (w : ℕ → ℕ) (kinds : ℕ) (words : List ℕ) (at : ℕ) where
  abbrev tree : ℕ → Part
  tree start = (tree_at max_depth words start).value

  -- what is tested of the shape
  abbrev Tested : Bool → Type 0
  Tested r = r ≡ fits (open_at words at) kinds (tree (part_at words at)) w

  -- the part starts there, and its other kinds pass the test
  passed :
      (start : ℕ) (one : Bool) → part_at words at ≡ start → one ≡ inside 1 (interval (tree start) w) →
      (open_at words at || others_zero kinds (tree start) w) ≡ true → Tested one
  passed start one q h y = rw q (fits-passed (open_at words at) kinds (tree start) w one h y)

  pub fits-open :
      (one : Bool) → open_at words at ≡ true → one ≡ inside 1 (interval (tree (at + 2)) w) → Tested one
  fits-open one o h = passed (at + 2) one (part-open words at o) h (or_left (open_at words at) _ o)

  module _ (r : Bool) (o : open_at words at ≡ false) (others : r ≡ others_zero kinds (tree (part_at words at)) w) where
    at-start : r ≡ others_zero kinds (tree (at + 1)) w
    at-start = rw (part-closed words at o) at others

    pub fits-closed : (one : Bool) → r ≡ true → one ≡ inside 1 (interval (tree (at + 1)) w) → Tested one
    fits-closed one y h =
        passed (at + 1) one (part-closed words at o) h
        (or_right (open_at words at) (others_zero kinds (tree (at + 1)) w) (sym at-start ∙ y))

    pub fits_not : r ≡ false → Tested false
    fits_not n = fits-failed (open_at words at) kinds (tree (part_at words at)) w o (sym others ∙ n)

-- The count samples hold over the bag definition: one computed test, and a lemma that turns it into each row.
--   samples-hold    every row of the table
-- Assumes nothing.
use Prim.Native.Nat.{ℕ}
use mathlib.Core.Path.{◌≡◌, refl, sym, ◌∙◌}
use mathlib.Core.Bool.{Bool, true, false, ◌&&◌, true≢false, beq}
use mathlib.Core.List.{List, [], ◌∷◌}
use native.Mathlib.Omega.{arith}
use Rattle.bags.specs.Part.{Part}
use Rattle.bags.specs.Bag.{Fits}
use Rattle.bags.specs.Look.{seen, listed}
use Rattle.bags.specs.Interval.{fits}
use Rattle.bags.specs.Samples.{Sample, row, samples, Says, counts_of, Holds, AllHold}
use Rattle.words.proofs.Bools.{and_first, and_second, same_true}
use Rattle.bags.proofs.Decide.{ok, ok-true, list-decided}

-- What the test says of a row's counts.
unfoldable fitting : Bool → Part → ℕ → ℕ → Bool
fitting is_open p x y = fits is_open 2 p (listed 2 (counts_of x y))

-- The row's part is one that the test decides, and the test has its answer.
unfoldable passes : Sample → Bool
passes (row is_open p x y answer) = ok 1 p && beq (fitting is_open p x y) answer

abbrev all_pass : List Sample → Bool
all_pass [] = true
all_pass (s ∷ ss) = passes s && all_pass ss

says : (t answer : Bool) (X : Type 0) → (X → t ≡ true) → (t ≡ true → X) → t ≡ answer → Says answer X
says t true X f g e = g e
says t false X f g e = λ x. true≢false (sym (f x) ∙ e)

row-holds : (s : Sample) → passes s ≡ true → Holds s
unfolding fitting passes
row-holds (row is_open p x y answer) e =
    let t = fitting is_open p x y in
    let h = ok-true 1 p (and_first (ok 1 p) (beq t answer) e) in
    let d = list-decided 1 is_open p 2 (counts_of x y) (omega arith) (omega arith) h.0 h.1 in
    let same = same_true t answer (and_second (ok 1 p) (beq t answer) e) in
    says t answer (Fits 1 p (seen is_open p (listed 2 (counts_of x y)))) d.0 d.1 same

rows-hold : (ss : List Sample) → all_pass ss ≡ true → AllHold ss
rows-hold [] e = tt
rows-hold (s ∷ ss) e =
    (row-holds s (and_first (passes s) (all_pass ss) e), rows-hold ss (and_second (passes s) (all_pass ss) e))

pub samples-hold : AllHold samples
unfolding fitting passes listed
samples-hold = rows-hold samples refl

-- Whether counts fit a shape, by its row of names and by the interval of its part.
-- others-named, others-zero, others-not   whether a label is named or counts 0, by its entry, and what if it is not
-- fits-passed, fits-failed                whether counts fit, from the interval and the test of the other labels
-- Assumes nothing.
use Prim.Native.Nat.{ℕ, ◌<◌}
use mathlib.Core.Path.{◌≡◌, refl, sym, ◌∙◌, ap}
use mathlib.Core.Logic.{⊎_elim}
use mathlib.Core.Bool.{Bool, true, false, not, ◌&&◌, ◌||◌}
use borrow.Author.Tests.{eq-eqb, ne_eqb}
use lib.Dec.{eqb}
use Rattle.words.proofs.Bools.{never_both, is_false, or_cases, or_left, or_right}
use Rattle.bags.specs.Part.{Part, names}
use Rattle.bags.specs.Named.{named}
use Rattle.bags.specs.Interval.{interval, inside, others_zero, fits}
use Rattle.bags.proofs.Naming.{named-names}
use Rattle.bags.proofs.Decide.{Passes, others-at}

module _ (p : Part) (w : ℕ → ℕ) where
  module _ (i entry : ℕ) (same : entry ≡ named p i) where
    -- the test of label i, by its entry
    named-test : names p i ≡ not (eqb entry 0)
    named-test = named-names p i ∙ ap (λ (x : ℕ). not (eqb x 0)) (sym same)

    pub others-named : (entry ≡ 0 → ⊥) → Passes p w i
    others-named ne = or_left (names p i) (eqb (w i) 0) (named-test ∙ ap not (ne_eqb entry 0 ne))

    pub others-zero : w i ≡ 0 → Passes p w i
    others-zero z = or_right (names p i) (eqb (w i) 0) (eq-eqb (w i) 0 z)

    pub others-not : (w i ≡ 0 → ⊥) → entry ≡ 0 → (labels : ℕ) → i < labels → false ≡ others_zero labels p w
    others-not ne none labels l = sym (is_false (λ t. ⊎_elim
        (λ d. never_both d (named-test ∙ ap not (eq-eqb entry 0 none)))
        (λ d. never_both d (ne_eqb (w i) 0 ne))
        (or_cases (names p i) (eqb (w i) 0) (others-at p w labels t i l))))

and_one : (b : Bool) → (b && true) ≡ b
and_one true = refl
and_one false = refl

and_none : (b : Bool) → (b && false) ≡ false
and_none true = refl
and_none false = refl

-- Counts fit a shape if 1 is in its part's interval, and the shape is open or the outgoing kinds that are not named
-- count 0.
module _ (is_open : Bool) (kinds : ℕ) (p : Part) (w : ℕ → ℕ) where
  pub fits-passed :
      (one : Bool) → one ≡ inside 1 (interval p w) → (is_open || others_zero kinds p w) ≡ true →
      one ≡ fits is_open kinds p w
  fits-passed one h y = rw y (h ∙ sym (and_one (inside 1 (interval p w))))

  pub fits-failed : is_open ≡ false → others_zero kinds p w ≡ false → false ≡ fits is_open kinds p w
  fits-failed o n = rw (o, n) (sym (and_none (inside 1 (interval p w))))

-- Samples of counts and whether they fit (docs/FORMAT.md, "Bags and counts"), as one table: P1 to P12, and open shapes.
--   samples     a shape, the counts of two kinds, and whether they fit; no links arrive
--   AllHold     each row's answer is that of Fits
-- Assumes nothing.
use Rattle.std.specs.Prelude.{ℕ, Bool, true, false, List, [], ◌∷◌}
use Rattle.bags.specs.Part.{at_most, Part, nothing, star, plus, choice, all, link, Parts, none, more}
use Rattle.bags.specs.Bag.{Fits}
use Rattle.bags.specs.Look.{seen, listed}

-- Whether the shape is open, its part, the counts of a and b, and the answer.
pub data Sample : Type 0 where
  row : Bool → Part → ℕ → ℕ → Bool → Sample

-- A row of a closed shape.
abbrev pub sample : Part → ℕ → ℕ → Bool → Sample
sample = row false

-- a[low;high].
abbrev pub a : ℕ → ℕ → Part
a low high = link 0 0 low (at_most high)

-- b[low;high].
abbrev pub b : ℕ → ℕ → Part
b low high = link 1 0 low (at_most high)

-- A run of two parts.
abbrev pub two : Part → Part → Parts
two p q = more p (more q none)

-- The rows after a label belong to it.
abbrev pub samples : List Sample
samples =
    -- P1, P2
    sample nothing 0 0 true
    ∷ sample nothing 1 0 false
    -- P3, P4, P5
    ∷ sample (a 2 3) 1 0 false
    ∷ sample (a 2 3) 2 0 true
    ∷ sample (a 2 3) 3 0 true
    ∷ sample (a 2 3) 4 0 false
    -- P6, P7
    ∷ sample (star (a 3 3)) 4 0 false
    ∷ sample (star (a 3 3)) 6 0 true
    -- P8
    ∷ sample (star (all (two (a 1 1) (b 1 1)))) 2 1 false
    ∷ sample (star (all (two (a 1 1) (b 1 1)))) 2 2 true
    -- P9
    ∷ sample (choice (two (a 1 1) (b 1 1))) 1 1 false
    ∷ sample (choice (two (a 1 1) (b 1 1))) 1 0 true
    ∷ sample (choice (two (a 1 1) (b 1 1))) 0 0 false
    -- P10
    ∷ sample (plus (a 0 1)) 0 0 true
    -- P11
    ∷ sample (plus (choice (two (a 1 1) (b 2 2)))) 1 4 true
    ∷ sample (plus (choice (two (a 1 1) (b 2 2)))) 1 1 false
    -- P12
    ∷ sample (a 0 0) 1 0 false
    ∷ sample (a 0 0) 0 0 true
    -- an open shape
    ∷ row true nothing 2 7 true
    ∷ row true (a 1 1) 1 7 true
    ∷ row true (a 1 1) 2 7 false
    ∷ []

-- X where the answer is yes, and not X where it is no.
abbrev pub Says : Bool → Type 0 → Type 0
Says true X = X
Says false X = X → ⊥

-- The counts of the two kinds: those of a row for outgoing links, and 0 for incoming ones.
abbrev pub counts_of : ℕ → ℕ → List ℕ
counts_of x y = x ∷ y ∷ 0 ∷ 0 ∷ []

-- A row is as the bags have it; both shapes of a table's links are 0, so 1 bounds them.
abbrev pub Holds : Sample → Type 0
Holds (row is_open p x y answer) = Says answer (Fits 1 p (seen is_open p (listed 2 (counts_of x y))))

-- Every row is.
abbrev pub AllHold : List Sample → Type 0
AllHold [] = Unit {0}
AllHold (s ∷ ss) = Holds s × AllHold ss

-- Pairs struck one at a time, in any order (docs/FORMAT.md, "Largest").
-- Strikes    a sequence of single strikes leads from every pair to a set
-- Left       a pair that is left and is not met
-- AnyOrder   whatever the order, the sequence ends in the largest typing, after as many strikes as are said
-- Assumes nothing.
use Rattle.std.specs.Prelude.{ℕ, ◌≤◌, ◌<◌, ◌≡◌, ◌⊎◌, ◌≢◌, List, [], ◌∷◌, false, length}
use Rattle.board.specs.Grid.{on}
use Rattle.sheet.specs.Sheet.{Sheet, place, size}
use Rattle.typing.specs.Typing.{Pairs, Has, Met, Sound}

-- `Strikes s ps X`: the pairs at the places ps, struck one after the other, lead from every pair to X; the last strike
-- stands first. A strike is of a pair of the sheet that is still left and is not met under what is left at that moment,
-- and it takes just that pair.
pub data Strikes (s : Sheet) : List ℕ → Pairs → Type 0 where
  start : {X : Pairs} → ((n t : ℕ) → n < s.cards → t < s.shapes → Has s X n t) → Strikes s [] X
  strike : {ps : List ℕ} {X Y : Pairs} → Strikes s ps X → (n t : ℕ) → n < s.cards → t < s.shapes
      → Has s X n t → (Met s X n t → ⊥)
      → Y (place s n t) ≡ false → ((p : ℕ) → p < size s → p ≢ place s n t → Y p ≡ X p)
      → Strikes s (place s n t ∷ ps) Y

-- A pair that the set has and that is not met under it.
pub record Left (s : Sheet) (X : Pairs) : Type 0 where
  pub card : ℕ
  pub shape : ℕ
  pub card-in : card < s.cards
  pub shape-in : shape < s.shapes
  pub left : Has s X card shape
  pub unmet : Met s X card shape → ⊥

-- For every sequence of single strikes. It stops when all pairs left are met: when what it leads to is sound.
pub record AnyOrder (s : Sheet) (grid : List ℕ) (struck : ℕ) : Type 0 where
  -- where it stops, just the pairs of the grid are left,
  pub ends : (ps : List ℕ) (X : Pairs) → Strikes s ps X → Sound s X → (p : ℕ) → p < size s → X p ≡ on grid p
  -- and its length is the number struck;
  pub long : (ps : List ℕ) (X : Pairs) → Strikes s ps X → Sound s X → length ps ≡ struck
  -- one that has not stopped can go on,
  pub goes_on : (ps : List ℕ) (X : Pairs) → Strikes s ps X → Sound s X ⊎ Left s X
  -- but none, stopped or not, is longer: so it stops, however the next pair is picked;
  pub bounded : (ps : List ℕ) (X : Pairs) → Strikes s ps X → length ps ≤ struck
  -- and there is one that stops
  pub some : (ps : List ℕ) × (X : Pairs) × Strikes s ps X × Sound s X

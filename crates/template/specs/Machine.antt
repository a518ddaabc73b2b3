-- What the functions that read shapes, and fill the table of names, go by; no part of a promise.
-- next_of                          what the code answers for a shape, or for all shapes
-- moved_to                         what a reader answers that has moved on
-- ShapeReadAsked, ShapeAnswer     what the readers of a shape ask; what they answer and leave in its row
-- entry_at, Tabled                 an entry of the table of names; the table has the shapes that each shape names
-- ShapesReadAsked, ShapesAnswer   what the reader of all shapes asks; what it answers and leaves in the table
-- Assumes nothing.
use Rattle.std.specs.Prelude.{ℕ, ◌+◌, ◌*◌, ◌≤◌, ◌<◌, ◌≡◌, List, length, get_or, Result}
use Rattle.words.specs.Limits.{max_kinds, max_labels, max_shapes}
use Rattle.words.specs.Sizes.{table_size}
use Rattle.words.specs.Reading.{Reading, accepted, mapped}
use Rattle.words.specs.Refused.{read_as}
use Rattle.words.specs.declared.refusal.Refusal.{Refusal}
use Rattle.bags.specs.Part.{Part}
use Rattle.bags.specs.Named.{named}
use Rattle.parts.specs.declared.Sizes.{Sizes}
use Rattle.parts.specs.Placed.{Placed}

-- What the code answers for a shape, or for all shapes: the next place, and no more of what was read.
abbrev pub next_of : {A : Type 0} → Reading (Placed A) → Reading ℕ
next_of reading = mapped (λ read. read.next) reading

-- What a reader answers that has moved to a place, or found a refusal.
abbrev pub moved_to : ℕ → Result (Unit {0}) Refusal → Reading ℕ
moved_to at result = mapped (λ done. at) (read_as result)

-- The counts are within their limits, and the row has a byte for each label.
pub record ShapeReadAsked (sizes : Sizes) (row : List ℕ) : Type 0 where
  pub kinds-high : sizes.kinds ≤ max_kinds
  pub shapes-high : sizes.shapes ≤ max_shapes
  pub room : length row ≡ max_labels

-- The answer is the reading's, and the row has the names of the shape that was read.
pub record ShapeAnswer (reading : Reading (Placed Part)) (answer : Reading ℕ) (row : List ℕ) : Type 0 where
  pub read : answer ≡ next_of reading
  pub names : (p : Placed Part) → reading ≡ accepted p → (k : ℕ) → get_or row k 0 ≡ named p.value k

-- The entry of the shape t for the label k.
abbrev pub entry_at : List ℕ → ℕ → ℕ → ℕ
entry_at names t k = get_or names (t * max_labels + k) 0

-- A table has a row of labels for each shape: the shape that the part names for the label plus one, or 0 for none.
abbrev pub Tabled : List Part → List ℕ → Type 0
Tabled parts names =
    (t k : ℕ) → t < length parts → k < max_labels → entry_at names t k ≡ named (get_or parts t Part.nothing) k

-- The counts are within their limits, and the table has a row for each shape.
pub record ShapesReadAsked (sizes : Sizes) (names : List ℕ) : Type 0 where
  pub kinds-high : sizes.kinds ≤ max_kinds
  pub shapes-high : sizes.shapes ≤ max_shapes
  pub room : length names ≡ table_size

-- The answer is the reading's, and the table has the names of all shapes that were read.
pub record ShapesAnswer (reading : Reading (Placed (List Part))) (answer : Reading ℕ) (names : List ℕ) : Type 0 where
  pub read : answer ≡ next_of reading
  pub table : (p : Placed (List Part)) → reading ≡ accepted p → Tabled p.value names

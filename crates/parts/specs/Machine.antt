-- What the functions that read a part go by; no part of a promise.
-- Step, shown, outcome           what the code shows of a part that is read: the next place and the row, or the refusal
-- PartReadAsked, LinkReadAsked   what the readers of a part, and of a link, ask
-- Assumes nothing.
use Rattle.std.specs.Prelude.{ℕ, ◌≤◌, ◌<◌, ◌≡◌, List, length}
use Rattle.words.specs.Limits.{max_kinds, max_labels, max_shapes}
use Rattle.words.specs.Reading.{Reading, accepted, turned_down, mapped}
use Rattle.parts.specs.declared.Sizes.{Sizes}
use Rattle.parts.specs.Reading.{Found, found}

-- The next place and the row: all that the code has of what was found.
pub record Step : Type 0 where
  pub next : ℕ
  pub row : List ℕ

abbrev pub step : ℕ → List ℕ → Step
step next row = record { next = next; row = row }

-- What the next place, or the refusal, and the row that is left show.
unfoldable pub shown : Reading ℕ → List ℕ → Reading Step
shown (accepted next) row = accepted (step next row)
shown (turned_down number place) row = turned_down number place

abbrev step_of : {A : Type 0} → Found A → Step
step_of (found a next row) = step next row

-- What a reading has the code show: all but the part.
abbrev pub outcome : {A : Type 0} → Reading (Found A) → Reading Step
outcome r = mapped step_of r

-- The words end at `end` or later, the row has an entry for each label, and the counts are within their limits.
pub record PartReadAsked (words : List ℕ) (end : ℕ) (sizes : Sizes) (row : List ℕ) : Type 0 where
  pub end-in : end ≤ length words
  pub labels_in : length row ≡ max_labels
  pub kinds-high : sizes.kinds ≤ max_kinds
  pub shapes-high : sizes.shapes ≤ max_shapes

-- What the reader of a link asks, whose labels start at `first`.
pub record LinkReadAsked (words : List ℕ) (at end : ℕ) (sizes : Sizes) (row : List ℕ) (first : ℕ) : Type 0 where
  pub part : PartReadAsked words end sizes row
  pub code_in : at < end
  pub first-in : first ≤ max_kinds

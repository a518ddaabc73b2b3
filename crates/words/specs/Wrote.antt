-- What writing a text into a buffer does; no part of a promise.
-- Room    from a place on the buffer has room for a text
-- Wrote   the text stands in the buffer from a place on, the rest is as it was, and the next place is past it
-- Assumes nothing.
use Rattle.std.specs.Prelude.{ℕ, ◌+◌, ◌≤◌, ◌≡◌, List, ◌++◌, length, take, drop}

-- From a place on the buffer has room for a text.
abbrev pub Room : List ℕ → ℕ → List ℕ → Type 0
Room buffer at text = at + length text ≤ length buffer

-- A text was written: the buffer before, the place, the text, the buffer after, the next place.
pub record Wrote (before : List ℕ) (at : ℕ) (text after : List ℕ) (next : ℕ) : Type 0 where
  -- the next place is in the buffer or at its end
  pub room : next ≤ length before
  -- it is just past the text
  pub moved : next ≡ at + length text
  -- what stood before the text and after it still does
  pub holds : after ≡ take at before ++ (text ++ drop next before)

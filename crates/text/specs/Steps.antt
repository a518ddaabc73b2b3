-- What writing text asks and leaves; no part of a promise.
-- Fits      a writer's buffer has room for a text
-- Adds      a text was added to a writer's
-- largest, smallest, smallest_no, refused, accepted   the words that lines start with
-- spaced, line_text   numbers, a space before each; a line of a word and numbers
-- Shows     a grid has places, and a writer's buffer has room for their text
-- Counted   so many bytes stand at the front of a buffer, which can be lent
-- Assumes nothing.
use Rattle.std.specs.Prelude.{ℕ, ◌≤◌, ◌≡◌, List, [], ◌∷◌, ◌++◌, length, take}
use Rattle.words.specs.Wrote.{Room, Wrote}
use Rattle.text.specs.Text.{digits, space, newline}
use Rattle.text.specs.declared.Writer.{Writer}

-- The buffer has room for a text past what is written.
abbrev pub Fits : Writer → List ℕ → Type 0
Fits w text = Room w.out.now w.end text

-- A text was added: the writer before, the text, the writer after.
pub record Adds (before : Writer) (text : List ℕ) (after : Writer) : Type 0 where
  -- it is still the same buffer that is lent
  pub same : after.out.ghost_name ≡ before.out.ghost_name
  pub long : length after.out.now ≡ length before.out.now
  pub wrote : Wrote before.out.now before.end text after.out.now after.end

-- The words "largest", "smallest", "smallest no", "refused", "accepted".
abbrev pub largest : List ℕ
largest = 108 ∷ 97 ∷ 114 ∷ 103 ∷ 101 ∷ 115 ∷ 116 ∷ []

abbrev pub smallest : List ℕ
smallest = 115 ∷ 109 ∷ 97 ∷ 108 ∷ 108 ∷ 101 ∷ 115 ∷ 116 ∷ []

abbrev pub smallest_no : List ℕ
smallest_no = 115 ∷ 109 ∷ 97 ∷ 108 ∷ 108 ∷ 101 ∷ 115 ∷ 116 ∷ 32 ∷ 110 ∷ 111 ∷ []

abbrev pub refused : List ℕ
refused = 114 ∷ 101 ∷ 102 ∷ 117 ∷ 115 ∷ 101 ∷ 100 ∷ []

abbrev pub accepted : List ℕ
accepted = 97 ∷ 99 ∷ 99 ∷ 101 ∷ 112 ∷ 116 ∷ 101 ∷ 100 ∷ []

-- Numbers, a space before each.
unfoldable pub spaced : List ℕ → List ℕ
spaced [] = []
spaced (n ∷ rest) = space ∷ (digits n ++ spaced rest)

-- A line of a word and numbers.
unfoldable pub line_text : List ℕ → List ℕ → List ℕ
line_text word numbers = word ++ (spaced numbers ++ (newline ∷ []))

-- The grid has the places below `end`, and the buffer has room for their text.
pub record Shows (grid : List ℕ) (end : ℕ) (w : Writer) (text : List ℕ) : Type 0 where
  pub inside : end ≤ length grid
  pub room : Fits w text

-- A buffer has so many bytes at its front.
pub record Counted (buffer : List ℕ) (count : ℕ) : Type 0 where
  pub room : count ≤ length buffer
  pub size : count ≡ length (take count buffer)

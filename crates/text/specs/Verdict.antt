-- The line of a verdict on a grid (docs/FORMAT.md, "The grid judge"), as a list of bytes.
-- accepted_line  the line of a grid that is accepted
-- numbers_end    numbers that end a line, at least one
-- verdict_line   the line of what the judge of a grid says
-- Assumes nothing.
use Rattle.std.specs.Prelude.{ℕ, List, [], ◌∷◌, ◌++◌}
use Rattle.words.specs.Said.{Said, values, refusal}
use Rattle.text.specs.Text.{digits, space, newline, refused_word}

-- The line "accepted".
abbrev pub accepted_line : List ℕ
accepted_line = 97 ∷ 99 ∷ 99 ∷ 101 ∷ 112 ∷ 116 ∷ 101 ∷ 100 ∷ newline ∷ []

-- A number and then others, a space before each of these, and the end of the line.
abbrev pub numbers_end : ℕ → List ℕ → List ℕ
numbers_end n [] = digits n ++ (newline ∷ [])
numbers_end n (m ∷ rest) = digits n ++ (space ∷ numbers_end m rest)

-- The line of a grid that is accepted; else the refusal's number and the numbers of its place.
unfoldable pub verdict_line : Said → List ℕ
verdict_line (values found) = accepted_line
verdict_line (refusal number place) = refused_word ++ numbers_end number place

-- What an operation that writes words to the front of a buffer says and leaves.
-- at_front     a buffer with some words at its front, and the rest of it as before
-- Writes      such a buffer is left, and the number of the words is said
-- write_said   what the answer of such an operation says
-- Assumes nothing.
use Rattle.std.specs.Prelude.{ℕ, ◌≡◌, List, [], ◌∷◌, ◌++◌, length, drop, Result}
use Rattle.words.specs.Said.{Said, values}
use Rattle.words.specs.Refused.{said_by}
use Rattle.words.specs.declared.refusal.Refusal.{Refusal}

abbrev pub at_front : List ℕ → List ℕ → List ℕ
at_front words buffer = words ++ drop (length words) buffer

-- Of the words, of the buffer before and after, and of what is said.
pub record Writes (words before after : List ℕ) (said : Said) : Type 0 where
  pub says : said ≡ values (length words ∷ [])
  pub writes : after ≡ at_front words before

-- The number of words or bytes, or a refusal's number and place.
abbrev pub write_said : Result ℕ Refusal → Said
write_said = said_by (λ count. values (count ∷ []))

-- Writing the printer's input: the bytes of three lists of words (docs/FORMAT.md, "The printer"). Used only by
-- theorems; no part of a promise of a call.
-- section         a list of words after its count
-- input_words, write_input   the three sections one after the other, as words and as bytes
-- InputFormed     what an input must be
-- Bytes           each number of a list is a byte
-- Assumes nothing.
use Rattle.std.specs.Prelude.{ℕ, ◌*◌, ◌≤◌, ◌<◌, List, ◌∷◌, ◌++◌, length, get_or}
use Rattle.words.specs.Limits.{max_input}
use Rattle.words.specs.Bytes.{write_words}
use Rattle.input.specs.Input.{Input}

-- A list of words after its count.
abbrev pub section : List ℕ → List ℕ
section words = length words ∷ words

-- Template, script and bookings, each after its count.
abbrev pub input_words : Input → List ℕ
input_words i = section i.template ++ (section i.script ++ section i.bookings)

-- Their bytes.
abbrev pub write_input : Input → List ℕ
write_input i = write_words (input_words i)

-- Each word, the counts among them, has 16 bits, and the words have at most 65,536 bytes.
pub record InputFormed (i : Input) : Type 0 where
  pub words : (k : ℕ) → get_or (input_words i) k 0 < 65536
  pub short : 2 * length (input_words i) ≤ max_input

-- Each number of a list is a byte.
abbrev pub Bytes : List ℕ → Type 0
Bytes bytes = (p : ℕ) → get_or bytes p 0 < 256

-- Numbers as bytes, low byte first (docs/FORMAT.md, "Words and terms").
-- low_first     so many bytes of a number
-- write_words   the bytes of words of 16 bits
-- Assumes nothing.
use Rattle.std.specs.Prelude.{ℕ, zero, suc, ◌/◌, ◌%◌, List, [], ◌∷◌, ◌++◌}

-- So many bytes of a number, the lowest first; the last has what is left.
abbrev pub low_first : ℕ → ℕ → List ℕ
low_first zero x = []
low_first (suc zero) x = x ∷ []
low_first (suc (suc n)) x = x % 256 ∷ low_first (suc n) (x / 256)

-- Two bytes for each word.
abbrev pub write_words : List ℕ → List ℕ
write_words [] = []
write_words (w ∷ ws) = low_first 2 w ++ write_words ws

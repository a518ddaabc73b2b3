-- Laws of the bytes of words.
--   write-append   the bytes of words and of others
--   write-next     the bytes of one word more
--   word-bytes     the bytes of a word
-- Assumes nothing.
use Prim.Native.Nat.{ℕ, ◌+◌, ◌/◌, ◌%◌, ◌<◌}
use mathlib.Core.Path.{◌≡◌, refl, sym, ap, ◌∙◌}
use mathlib.Core.List.{List, [], ◌∷◌, ◌++◌}
use native.Mathlib.Numerals.{add-one}
use native.Mathlib.Omega.{arith}
use lib.ListN.{length, take, get_or}
use lib.Seq.{take-suc}
use Rattle.words.specs.Bytes.{low_first, write_words}
use Rattle.std.specs.Int.{w16, to_le_bytes}

pub write-append : (a b : List ℕ) → write_words (a ++ b) ≡ write_words a ++ write_words b
write-append [] b = refl
write-append (w ∷ ws) b = ap (λ (l : List ℕ). low_first 2 w ++ l) (write-append ws b)

pub write-next : (words : List ℕ) (i : ℕ) → i < length words
    → write_words (take i words) ++ low_first 2 (get_or words i 0) ≡ write_words (take (i + 1) words)
write-next words i l =
    sym (ap (λ (n : ℕ). write_words (take n words)) (add-one i)
    ∙ ap write_words (take-suc words i 0 l) ∙ write-append (take i words) (get_or words i 0 ∷ []))

pub word-bytes : (w : ℕ) → w < 65536 → to_le_bytes w16 w ≡ low_first 2 w
word-bytes w h =
    let small : w / 256 < 256 = omega arith in
    let high : w / 256 % 256 ≡ w / 256 = omega arith in
    ap (λ (x : ℕ). w % 256 ∷ x ∷ []) high

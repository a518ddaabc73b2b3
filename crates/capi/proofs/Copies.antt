-- Copying words to the start of a buffer.
-- copied_next    one word more is copied
-- words_copied   all words are copied
-- room-filled    the buffer is full
-- Assumes nothing.
use Prim.Native.Nat.{ℕ, ◌+◌, ◌≤◌, ◌<◌}
use mathlib.Core.Path.{◌≡◌, sym, ◌∙◌}
use mathlib.Core.List.{List, ◌++◌}
use native.Mathlib.Omega.{arith}
use lib.ListN.{length, take, drop, get_or, set}
use lib.Seq.{take_all, take-length, take-suc, drop-cons, set_at, append_snoc, length-take-le}
use native.Mathlib.Numerals.{add-one}
use Rattle.capi.specs.Numbers.{copied}

module _ (words buffer : List ℕ) where
  pub copied_next :
      (now : List ℕ) (i : ℕ) → now ≡ take i words ++ drop i buffer → i < length buffer → i < length words →
      set now i (get_or words i 0) ≡ take (i + 1) words ++ drop (i + 1) buffer
  copied_next now i e room more =
      rw (e, add-one i, drop-cons buffer i 0, take-suc words i 0)
      (set_at (take i words) _ _ _ i (length-take-le i words (omega arith)) ∙ sym (append_snoc (take i words) _ _))

  pub words_copied :
      length words ≤ length buffer →
      take (length words) words ++ drop (length words) buffer ≡ copied words buffer
  words_copied h = rw (take_all (length buffer) words h, take-length words)

  pub room-filled :
      length buffer ≤ length words →
      take (length buffer) words ++ drop (length buffer) buffer ≡ copied words buffer
  room-filled h = rw (length-take-le (length buffer) words h)

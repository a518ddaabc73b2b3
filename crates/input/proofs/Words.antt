-- Words that are decoded once, in parts.
--   words-length   so many words are so many
--   words-split    some words, and those after them
--   part-words     a part of the words of all bytes is the words from its place on
--   section-words  a section of the input, as a part of its words
--   part_in_words  and it is a part of them
-- Assumes nothing.
use Prim.Native.Nat.{ℕ, zero, suc, ◌+◌, ◌-◌, ◌*◌, ◌/◌, ◌≤◌}
use mathlib.Core.Path.{◌≡◌, refl, sym, ap, ap₂, ◌∙◌}
use mathlib.Core.List.{List, [], ◌∷◌, ◌++◌, append_assoc, append-nil}
use native.Mathlib.Omega.{arith}
use lib.ListN.{length, take, drop, length-append}
use lib.Seq.{take_at, drop_at}
use Rattle.input.specs.Input.{word_at, words_from}
use Rattle.input.specs.Machine.{words_in, part_in, Within}
use Rattle.input.specs.declared.Section.{Section}

module _ (bytes : List ℕ) where
  pub words-length : (at n : ℕ) → length (words_from bytes at n) ≡ n
  unfolding words_from
  words-length at zero = refl
  words-length at (suc n) =
      omega (arith, length-append (words_from bytes at n) (word_at bytes (at + 2 * n) ∷ []), words-length at n)

  pub words-split : (at a k : ℕ) → words_from bytes at (a + k) ≡ words_from bytes at a ++ words_from bytes (at + 2 *
      a) k
  unfolding words_from
  words-split at a zero = let none : a + 0 ≡ a = omega arith in rw none (sym (append-nil (words_from bytes at a)))
  words-split at a (suc k) =
      let more : a + suc k ≡ suc (a + k) = omega arith in
      let here : at + 2 * (a + k) ≡ at + 2 * a + 2 * k = omega arith in
      rw more (ap₂ ◌++◌ (words-split at a k) (ap (λ (p : ℕ). word_at bytes p ∷ []) here)
      ∙ append_assoc (words_from bytes at a) (words_from bytes (at + 2 * a) k) (word_at bytes (at + 2 * a + 2 * k)
      ∷ []))

  part-words : (a k rest : ℕ) → take k (drop a (words_from bytes 0 (a + (k + rest)))) ≡ words_from bytes (2 * a) k
  part-words a k rest =
      let front = words_from bytes 0 a in
      let part = words_from bytes (2 * a) k in
      let back = words_from bytes (2 * a + 2 * k) rest in
      let from : 0 + 2 * a ≡ 2 * a = omega arith in
      let all : words_from bytes 0 (a + (k + rest)) ≡ front ++ (part ++ back) =
      words-split 0 a (k + rest) ∙ ap (λ (p : ℕ). front ++ words_from bytes p (k + rest)) from
      ∙ ap (λ (l : List ℕ). front ++ l) (words-split (2 * a) k rest) in
      ap (λ (l : List ℕ). take k (drop a l)) all
      ∙ ap (take k) (drop_at front (part ++ back) a (words-length 0 a))
      ∙ take_at part back k (words-length (2 * a) k)

-- The words of all bytes.
module _ (bytes words : List ℕ) (decoded : words ≡ words_from bytes 0 (length bytes / 2)) where
  pub section-words : (s : Section) → Within bytes s → part_in words s ≡ words_in bytes s
  section-words s w =
      let a = s.at / 2 in
      let k = s.count in
      let n = length bytes / 2 in
      let all : a + (k + (n - (a + k))) ≡ n = omega (arith, w.ends, w.even) in
      ap (λ (l : List ℕ). take k (drop a l)) (decoded ∙ ap (words_from bytes 0) (sym all))
      ∙ part-words bytes a k (n - (a + k))
      ∙ ap (λ (p : ℕ). words_from bytes p k) (sym w.even)

  pub part_in_words : (s : Section) → Within bytes s → s.at / 2 + s.count ≤ length words
  part_in_words s w =
      omega (arith, ap length decoded ∙ words-length bytes 0 (length bytes / 2), w.ends, w.even)

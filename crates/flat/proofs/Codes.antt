-- What a step of a survey does at a code.
--   size-nothing, size-all, size-link   how many words the codes of flat parts take
--   size_low, size-high                 no other code takes any
--   link-size                           a code from 256 on that takes words is that of a label
--   entered-link, entered-other         a link's place is entered; nothing is at another code
--   must-some, must-none, must-other    a link counts if its low is above 0; another code does not
-- Assumes nothing.
use Prim.Native.Nat.{ℕ, ◌+◌, ◌-◌, ◌≤◌, ◌<◌}
use mathlib.Core.Path.{◌≡◌}
use mathlib.Core.Logic.{⊎_elim, ◌≢◌}
use mathlib.Core.List.{List}
use native.Mathlib.Omega.{arith}
use borrow.Author.Tests.{lt-ltb, le-ltb, ne_eqb}
use lib.ListN.{get_or, set}
use Rattle.words.specs.Limits.{max_labels}
use Rattle.words.proofs.Bools.{le-or-lt}
use Rattle.board.specs.Grid.{bit}
use Rattle.flat.specs.Places.{low_at, code_size, entered, must_at}

pub size-nothing : (code : ℕ) → code ≡ 0 → code_size code ≡ 1
unfolding code_size
size-nothing code e = rw e

pub size-all : (code : ℕ) → code ≡ 17 → code_size code ≡ 2
unfolding code_size
size-all code e = rw e

pub size-link : (code : ℕ) → 256 ≤ code → code < 384 → code_size code ≡ 4
unfolding code_size
size-link code l m = simp (le-ltb code 256 l, lt-ltb code 384 m)

pub size_low : (code : ℕ) → code < 256 → code ≢ 0 → code ≢ 17 → code_size code ≡ 0
unfolding code_size
size_low code l m n = simp (lt-ltb code 256 l, ne_eqb code 0 m, ne_eqb code 17 n)

pub size-high : (code : ℕ) → 384 ≤ code → code_size code ≡ 0
unfolding code_size
size-high code l = let m : 256 ≤ code = omega arith in simp (le-ltb code 256 m, le-ltb code 384 l)

pub link-size : (code : ℕ) → code_size code ≢ 0 → code < 256 + max_labels
link-size code n =
    ⊎_elim (λ (l : 384 ≤ code). absurd (n (size-high code l))) (λ (l : code < 384). omega arith) (le-or-lt 384 code)

module _ (words : List ℕ) (at : ℕ) where
  pub entered-link : (places : List ℕ) → 256 ≤ get_or words at 0
      → entered words at places ≡ set places (get_or words at 0 - 256) at
  unfolding entered
  entered-link places l = simp (le-ltb (get_or words at 0) 256 l)

  pub entered-other : (places : List ℕ) → get_or words at 0 < 256 → entered words at places ≡ places
  unfolding entered
  entered-other places l = simp (lt-ltb (get_or words at 0) 256 l)

  pub must-some : 256 ≤ get_or words at 0 → 0 < low_at words at → must_at words at ≡ 1
  unfolding must_at bit
  must-some l m = simp (le-ltb (get_or words at 0) 256 l, lt-ltb 0 (low_at words at) m)

  pub must-none : 256 ≤ get_or words at 0 → low_at words at ≡ 0 → must_at words at ≡ 0
  unfolding must_at bit
  must-none l m = simp (le-ltb (get_or words at 0) 256 l, m)

  pub must-other : get_or words at 0 < 256 → must_at words at ≡ 0
  unfolding must_at
  must-other l = simp (lt-ltb (get_or words at 0) 256 l)

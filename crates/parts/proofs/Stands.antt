-- Where words stand in a list of words.
--   Stands           the words stand in the list from a place on
--   stands_here, stands_after   the first word, and the others
--   stands-cons, stands-nil     and back
--   stands-three, stands-four   three and four words, one by one
--   stands-left, stands-right   the first of two lists of words, and the second; stands-append: and back
--   stands-all       a list stands in itself
--   stands-only      a list in which the words stand from its start to its end is these words
-- Assumes nothing.
use Prim.Native.Nat.{ℕ, zero, suc, ◌+◌, ◌-◌, ◌≤◌, ◌<◌}
use mathlib.Core.Path.{◌≡◌, sym, ap, ◌∙◌}
use mathlib.Core.Logic.{⊎_elim}
use mathlib.Core.List.{List, [], ◌∷◌, ◌++◌}
use native.Mathlib.Omega.{arith}
use lib.ListN.{length, get_or, length-append, get_or-append}
use lib.Seq.{get_or-append-add, ext_get_or}
use Rattle.words.proofs.Bools.{le-or-lt}

-- The words xs stand in the list from a place on.
abbrev pub Stands : List ℕ → ℕ → List ℕ → Type 0
Stands words at xs = (i : ℕ) → i < length xs → get_or words (at + i) 0 ≡ get_or xs i 0

module _ (words : List ℕ) where
  -- the same place, written otherwise
  moved : {m n : ℕ} → m ≡ n → get_or words m 0 ≡ get_or words n 0
  moved e = ap (λ (k : ℕ). get_or words k 0) e

  pub stands_here : (at x : ℕ) (xs : List ℕ) → Stands words at (x ∷ xs) → get_or words at 0 ≡ x
  stands_here at x xs h = let e : at ≡ at + 0 = omega arith in moved e ∙ h 0 (omega arith)

  pub stands_after : (at x : ℕ) (xs : List ℕ) → Stands words at (x ∷ xs) → Stands words (at + 1) xs
  stands_after at x xs h i l = let e : at + 1 + i ≡ at + suc i = omega arith in moved e ∙ h (suc i) (omega arith)

  pub stands-nil : (at : ℕ) → Stands words at []
  stands-nil at i l = absurd (omega arith)

  pub stands-cons : (at x : ℕ) (xs : List ℕ) → get_or words at 0 ≡ x → Stands words (at + 1) xs → Stands words at
      (x ∷ xs)
  stands-cons at x xs e h zero l = let f : at + 0 ≡ at = omega arith in moved f ∙ e
  stands-cons at x xs e h (suc i) l = let f : at + suc i ≡ at + 1 + i = omega arith in moved f ∙ h i (omega arith)

  -- Four words, and three.
  pub stands-three : (at a b c : ℕ) → get_or words at 0 ≡ a → get_or words (at + 1) 0 ≡ b → get_or words (at + 2) 0 ≡ c
      → Stands words at (a ∷ b ∷ c ∷ [])
  stands-three at a b c e f g =
      let two : at + 1 + 1 ≡ at + 2 = omega arith in
      stands-cons at a (b ∷ c ∷ []) e
      (stands-cons (at + 1) b (c ∷ []) f
      (stands-cons (at + 1 + 1) c [] (moved two ∙ g)
      (stands-nil (at + 1 + 1 + 1))))

  pub stands-four : (at a b c d : ℕ) → get_or words at 0 ≡ a → get_or words (at + 1) 0 ≡ b → get_or words (at + 2)
      0 ≡ c
      → get_or words (at + 3) 0 ≡ d → Stands words at (a ∷ b ∷ c ∷ d ∷ [])
  stands-four at a b c d e f g h =
      let two : at + 1 + 1 ≡ at + 2 = omega arith in
      let three : at + 1 + 2 ≡ at + 3 = omega arith in
      stands-cons at a (b ∷ c ∷ d ∷ []) e
      (stands-three (at + 1) b c d f (moved two ∙ g) (moved three ∙ h))

  pub stands-left : (at : ℕ) (xs ys : List ℕ) → Stands words at (xs ++ ys) → Stands words at xs
  stands-left at xs ys h i l = h i (omega (arith, length-append xs ys)) ∙ get_or-append xs ys 0 i l

  pub stands-right : (at : ℕ) (xs ys : List ℕ) → Stands words at (xs ++ ys) → Stands words (at + length xs) ys
  stands-right at xs ys h i l =
      let e : at + length xs + i ≡ at + (length xs + i) = omega arith in
      moved e ∙ h (length xs + i) (omega (arith, length-append xs ys)) ∙ get_or-append-add xs ys i 0

  pub stands-append : (at : ℕ) (xs ys : List ℕ) → Stands words at xs → Stands words (at + length xs) ys
      → Stands words at (xs ++ ys)
  stands-append at xs ys f g i l = ⊎_elim
      (λ (r : length xs ≤ i).
      let e : at + i ≡ at + length xs + (i - length xs) = omega arith in
      let d : length xs + (i - length xs) ≡ i = omega arith in
      moved e ∙ g (i - length xs) (omega (arith, length-append xs ys))
      ∙ sym (get_or-append-add xs ys (i - length xs) 0) ∙ ap (λ (k : ℕ). get_or (xs ++ ys) k 0) d)
      (λ (r : i < length xs). f i r ∙ sym (get_or-append xs ys 0 i r))
      (le-or-lt (length xs) i)

  pub stands-all : Stands words 0 words
  stands-all i l = let e : 0 + i ≡ i = omega arith in moved e

  pub stands-only : (xs : List ℕ) → Stands words 0 xs → length words ≡ length xs → words ≡ xs
  stands-only xs h e = ext_get_or 0 words xs e
      (λ i l. let f : i ≡ 0 + i = omega arith in moved f ∙ h i (omega arith))

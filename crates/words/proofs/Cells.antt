-- Filling a list cell by cell.
-- cells-more   one store more at the end of what is filled
-- put-before, put-inside, put-after   a part of a list put back: what stands before it, in it and after it
-- Assumes nothing.
use Prim.Native.Nat.{ℕ, ◌+◌, ◌-◌, ◌≤◌, ◌<◌}
use mathlib.Core.Path.{◌≡◌, sym, ap, ◌∙◌}
use mathlib.Core.Logic.{⊎_elim}
use mathlib.Core.List.{List}
use native.Mathlib.Omega.{arith}
use lib.ListN.{length, get_or, set, take, get_or-append}
use borrow.Rule.Slice.PartMut.{put_mid, take_put, drop_put}
use lib.Seq.{get_or-set_same, get_or-set_other, get_or-take, get_or-drop, get_or-append-add, length-take-le}
use Rattle.words.proofs.Bools.{eq-or-ne}

pub cells-more : (f : ℕ → ℕ) (cells : List ℕ) (k x : ℕ) → k < length cells → x ≡ f k
    → ((j : ℕ) → j < k → get_or cells j 0 ≡ f j)
    → (j : ℕ) → j < k + 1 → get_or (set cells k x) j 0 ≡ f j
cells-more f cells k x l e filled j h =
    ⊎_elim
    (λ q. ap (λ (y : ℕ). get_or (set cells k x) y 0) q ∙ get_or-set_same cells k x 0 l ∙ e ∙ ap f (sym q))
    (λ ne. get_or-set_other cells k j x 0 ne ∙ filled j (omega arith))
    (eq-or-ne j k)

-- A part of a list put back: what stands before it, in it and after it.
pub put-before :
    (a k : ℕ) (xs ys : List ℕ) (j : ℕ) → a ≤ length xs → j < a → get_or (put_mid a k xs ys) j 0 ≡ get_or xs j 0
put-before a k xs ys j h i =
    sym (get_or-take a (put_mid a k xs ys) j 0 i) ∙ ap (λ (l : List ℕ). get_or l j 0) (take_put a k xs ys h)
    ∙ get_or-take a xs j 0 i

pub put-inside :
    (a k : ℕ) (xs ys : List ℕ) (j : ℕ) → a ≤ length xs → j < length ys →
    get_or (put_mid a k xs ys) (a + j) 0 ≡ get_or ys j 0
put-inside a k xs ys j h i =
    ap (λ (n : ℕ). get_or (put_mid a k xs ys) (n + j) 0) (sym (length-take-le a xs h))
    ∙ get_or-append-add (take a xs) _ j 0 ∙ get_or-append ys _ 0 j i

pub put-after :
    (a e : ℕ) (xs ys : List ℕ) (j : ℕ) → a ≤ e → e ≤ length xs → length ys ≡ e - a → e ≤ j →
    get_or (put_mid a (e - a) xs ys) j 0 ≡ get_or xs j 0
put-after a e xs ys j h i l g =
    let q : e + (j - e) ≡ j = omega arith in
    ap (λ (n : ℕ). get_or (put_mid a (e - a) xs ys) n 0) (sym q)
    ∙ sym (get_or-drop e (put_mid a (e - a) xs ys) (j - e) 0)
    ∙ ap (λ (m : List ℕ). get_or m (j - e) 0) (drop_put a e xs ys h i l) ∙ get_or-drop e xs (j - e) 0
    ∙ ap (λ (n : ℕ). get_or xs n 0) q

-- Marking the cards that links touch.
-- marked-none, marked_more   the marks of no links, and after one link more
-- Assumes nothing.
use Prim.Native.Nat.{ℕ, suc, ◌+◌, ◌<◌}
use mathlib.Core.Path.{◌≡◌, refl, sym, ap, ◌∙◌}
use mathlib.Core.Logic.{⊎_elim}
use mathlib.Core.Bool.{Bool, cond}
use mathlib.Core.List.{List}
use native.Mathlib.Omega.{arith}
use native.Mathlib.Numerals.{add-one}
use lib.ListN.{length, get_or, set, replicate, length-set, length-replicate, get_or-replicate}
use lib.Seq.{get_or-set_same, get_or-set_other}
use Rattle.words.proofs.Bools.{eq-or-ne}
use Rattle.script.specs.Link.{from_at, to_at, linked}
use Rattle.script.proofs.Linked.{linked-none, linked-from, linked_to, linked-other}
use Rattle.links.specs.Marks.{LinkedMarked}

-- The marks of no links.
pub marked-none : (script marks : List ℕ) (cards : ℕ) → marks ≡ replicate cards 0
    → LinkedMarked script 0 (length marks) marks
marked-none script marks cards e = record {
  size = refl;
  exact = λ n l. ap (λ (x : List ℕ). get_or x n 0) e
      ∙ get_or-replicate {A = ℕ} cards n 0 0 (omega (arith, ap length e, length-replicate {A = ℕ} cards 0))
      ∙ ap (λ (b : Bool). cond b 1 0) (sym (linked-none script n));
}

-- The marks of the first m links, after both ends of link m are marked too.
module _ (script marks : List ℕ) (m cards from to : ℕ) (starts : from ≡ from_at script m) (leads : to ≡ to_at script m)
    (from_in : from < length marks) (to_in : to < length marks) (marked : LinkedMarked script m cards marks)
  where
    -- a card that one of the two stores marks, and a card that neither does
    mark-from : (n : ℕ) → n ≡ from → get_or (set marks from 1) n 0 ≡ cond (linked script n (suc m)) 1 0
    mark-from n e =
        ap (λ (x : ℕ). get_or (set marks from 1) x 0) e ∙ get_or-set_same marks from 1 0 from_in
        ∙ ap (λ (b : Bool). cond b 1 0) (sym (linked-from script n m (sym (e ∙ starts))))

    mark-to : (n : ℕ) → n ≡ to → get_or (set (set marks from 1) to 1) n 0 ≡ cond (linked script n (suc m)) 1 0
    mark-to n e =
        ap (λ (x : ℕ). get_or (set (set marks from 1) to 1) x 0) e
        ∙ get_or-set_same (set marks from 1) to 1 0 (omega (arith, length-set marks from 1))
        ∙ ap (λ (b : Bool). cond b 1 0) (sym (linked_to script n m (sym (e ∙ leads))))

    mark-other : (n : ℕ) → n < length marks → (n ≡ from → ⊥) → (n ≡ to → ⊥)
        → get_or (set marks from 1) n 0 ≡ cond (linked script n (suc m)) 1 0
    mark-other n l no-from no-to =
        get_or-set_other marks from n 1 0 no-from ∙ marked.exact n l
        ∙ ap (λ (b : Bool). cond b 1 0)
        (sym (linked-other script n m (λ e. no-from (sym (starts ∙ e))) (λ e. no-to (sym (leads ∙ e)))))

    mark-each : (n : ℕ) → n < length marks
        → get_or (set (set marks from 1) to 1) n 0 ≡ cond (linked script n (suc m)) 1 0
    mark-each n l =
        ⊎_elim (mark-to n)
        (λ no-to. get_or-set_other (set marks from 1) to n 1 0 no-to
        ∙ ⊎_elim (mark-from n) (λ no-from. mark-other n l no-from no-to) (eq-or-ne n from))
        (eq-or-ne n to)

    same_length : length (set (set marks from 1) to 1) ≡ length marks
    same_length = length-set (set marks from 1) to 1 ∙ length-set marks from 1

    pub marked_more : LinkedMarked script (m + 1) cards (set (set marks from 1) to 1)
    marked_more = rw (add-one m) (record {
      size = same_length ∙ marked.size;
      exact = λ n l. mark-each n (omega (arith, same_length));
    })

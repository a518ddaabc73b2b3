-- The closure by one search, forwards from the bookings.
--   Flood    the search's invariant
--   start    it holds where the queue lists the bookings
--   add      it is kept by a place of the closure that is added
--   advance  the head moves on when all that its place needs is added
--   flooded  the queue is used up: what is not left is the closure
-- Assumes nothing.
use mathlib.Core.Path.{◌≡◌, refl, sym, subst}
use mathlib.Core.Logic.{⊎_elim, ◌≢◌}
use mathlib.Core.Bool.{Bool, true, false, not}
use Prim.Native.Nat.{ℕ, suc, ◌≤◌, ◌<◌}
use native.Mathlib.Nat.{not-suc-le-zero}
use native.Mathlib.Omega.{arith}
use Rattle.board.specs.Board.{Board, Inside, Closed, booked, follow, Flooded}
use Rattle.board.specs.Work.{Queued}
use Rattle.board.specs.Listing.{Lists}
use Rattle.words.proofs.Bools.{last-or-below, false_of_not, not_of_false}
use Rattle.board.proofs.Queues.{each-entry, kept-value, lists-more}
use Rattle.board.proofs.Closure.{closed-inside}

-- X has the places that are not found. The queue lists the others, and what an entry below `head` needs is found.
pub record Flood (B : Board) (Book : ℕ → Type 0) (X : ℕ → Bool) (queue : ℕ → ℕ) (head tail : ℕ) : Type 0 where
  pub head_tail : head ≤ tail
  -- the entries are the places found
  pub lists : Lists X queue tail B.size
  -- no more is found than the closure has
  pub needed : (i : ℕ) → i < tail → Closed B Book (queue i)
  -- what an entry below `head` needs is found
  pub done : (i q : ℕ) → i < head → B.Dep (queue i) q → X q ≡ false

pub start : {B : Board} (X : ℕ → Bool) (queue : ℕ → ℕ) (tail : ℕ)
    → Lists X queue tail B.size → Flood B (Queued queue tail) X queue 0 tail
start X queue tail lists = record {
  head_tail = omega arith;
  lists = lists;
  needed = λ i l. booked (i, l, refl);
  done = λ i q h. absurd (not-suc-le-zero h);
}

module _ {B : Board} {Book : ℕ → Type 0} {X : ℕ → Bool} {queue : ℕ → ℕ} {head tail : ℕ} where
  pub add : (X' : ℕ → Bool) (queue' : ℕ → ℕ) (p : ℕ)
      → Flood B Book X queue head tail → p < B.size → X p ≡ true → Closed B Book p
      → X' p ≡ false → ((q : ℕ) → q ≢ p → X' q ≡ X q)
      → queue' tail ≡ p → ((i : ℕ) → i < tail → queue' i ≡ queue i)
      → Flood B Book X' queue' head (suc tail)
  add X' queue' p s l missed closed now other last same = record {
    head_tail = omega (arith, s.head_tail);
    lists = lists-more last same s.lists l missed now other;
    needed = each-entry last same (λ x. Closed B Book x) closed s.needed;
    done = λ i q li d. kept-value now other q
        (s.done i q li (subst (λ (x : ℕ). B.Dep x q) (same i (omega (arith, s.head_tail))) d));
  }

  pub advance : Flood B Book X queue head tail → head < tail
      → ((q : ℕ) → B.Dep (queue head) q → X q ≡ false) → Flood B Book X queue (suc head) tail
  advance s h f = record {
    head_tail = h;
    lists = s.lists;
    needed = s.needed;
    done = λ i q li d. ⊎_elim
        (λ (e : i ≡ head). f q (subst (λ (x : ℕ). B.Dep (queue x) q) e d))
        (λ m. s.done i q m d)
        (last-or-below li);
  }

module _ {B : Board} {Book : ℕ → Type 0} (inside : Inside B) (books : (p : ℕ) → Book p → p < B.size)
    {X : ℕ → Bool} {queue : ℕ → ℕ} {tail : ℕ} where
  -- with the bookings, all of the closure is found
  flooded-has : Flood B Book X queue tail tail → ((p : ℕ) → Book p → X p ≡ false)
      → {p : ℕ} → Closed B Book p → X p ≡ false
  flooded-has s held (booked h) = held _ h
  flooded-has s held (follow {p} {q} c d) =
      let w = s.lists.listed p (closed-inside inside books c) (flooded-has s held c) in
      s.done w.0 q w.1 (subst (λ (x : ℕ). B.Dep x q) (sym w.2) d)

  pub flooded : Flood B Book X queue tail tail → ((p : ℕ) → Book p → X p ≡ false)
      → Flooded B Book (λ p. not (X p)) tail
  flooded s held = record {
    has = λ p c. not_of_false (flooded-has s held c);
    only = λ p l t.
        let w = s.lists.listed p l (false_of_not t) in
        subst (λ (x : ℕ). Closed B Book x) w.2 (s.needed w.0 w.1);
    count = s.lists.count;
  }

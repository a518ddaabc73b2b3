-- The rounds by one breadth-first search, backwards from the places that are not ok.
--   Levels      the search's invariant
--   start       it holds where the queue lists what is not ok
--   strike      it is kept by a strike of a place that needs the one at the head
--   advance     the head moves on when all that needs its place is struck
--   next_level  a level is done: the next round begins
--   finished    the queue is used up: the rounds are done
-- Assumes nothing.
use mathlib.Core.Path.{◌≡◌, sym, ap, ◌∙◌, subst}
use mathlib.Core.Logic.{◌⊎◌, inl, inr, ⊎_elim, ◌≢◌}
use mathlib.Core.Bool.{Bool, true, false}
use Prim.Native.Nat.{ℕ, zero, suc, ◌≤◌, ◌<◌}
use native.Mathlib.Nat.{not-suc-le-zero}
use native.Mathlib.Omega.{arith}
use Rattle.board.specs.Board.{Board, Inside, Struck, Finished}
use Rattle.board.specs.Work.{Queued}
use Rattle.board.specs.Listing.{Lists}
use Rattle.words.proofs.Bools.{never_both, last-or-below}
use Rattle.board.proofs.Queues.{each-entry, kept-value, lists-more}

-- what falls in the first k rounds falls in the first k + 1
struck-more : (B : Board) (k p : ℕ) → Struck B k p → Struck B (suc k) p
struck-more B zero p s = absurd s
struck-more B (suc k) p (inl o) = inl o
struck-more B (suc k) p (inr w) = inr (w.0, w.1, struck-more B k w.0 w.2)

-- X has the places that still stand. The entries below `end` were struck in the rounds up to `round`,
-- those from there up to `tail` in the next one, and what needs an entry below `head` is struck.
pub record Levels (B : Board) (X : ℕ → Bool) (queue : ℕ → ℕ) (head end tail round : ℕ) : Type 0 where
  pub head-end : head ≤ end
  pub end-tail : end ≤ tail
  -- each round struck something
  pub round-end : round ≤ end
  -- the entries are the places struck
  pub lists : Lists X queue tail B.size
  -- the entries below `end` fell in the rounds up to `round`
  pub old : (i : ℕ) → i < end → Struck B round (queue i)
  -- and all that fell in them are below `end`
  pub all_old : (p : ℕ) → p < B.size → Struck B round p → Queued queue end p
  -- the entries from `end` on did not fall in them
  pub fresh : (i : ℕ) → end ≤ i → i < tail → Struck B round (queue i) → ⊥
  -- but in the next round at the latest
  pub new : (i : ℕ) → i < tail → Struck B (suc round) (queue i)
  -- what needs an entry below `head` is struck
  pub done : (i p : ℕ) → i < head → p < B.size → B.Dep p (queue i) → X p ≡ false
  -- what is not ok is struck
  pub base : (p : ℕ) → p < B.size → B.ok p ≡ false → X p ≡ false
  -- each round up to `round` struck something
  pub noisy : (j : ℕ) → j < round → (p : ℕ) × (p < B.size) × Struck B (suc j) p × (Struck B j p → ⊥)

pub start : {B : Board} (X : ℕ → Bool) (queue : ℕ → ℕ) (tail : ℕ)
    → ((p : ℕ) → p < B.size → X p ≡ B.ok p) → Lists X queue tail B.size → Levels B X queue 0 0 tail 0
start X queue tail grid lists = record {
  head-end = omega arith;
  end-tail = omega arith;
  round-end = omega arith;
  lists = lists;
  old = λ i h. absurd (not-suc-le-zero h);
  all_old = λ p h f. absurd f;
  fresh = λ i a b f. f;
  new = λ i h. let here = lists.queued i h in inl (sym (grid (queue i) here.0) ∙ here.1);
  done = λ i p h. absurd (not-suc-le-zero h);
  base = λ p h f. grid p h ∙ f;
  noisy = λ j h. absurd (not-suc-le-zero h);
}

module _ {B : Board} {X : ℕ → Bool} {queue : ℕ → ℕ} {head end tail round : ℕ} where
  -- p, which needs the place at the head, is struck and queued
  pub strike : (X' : ℕ → Bool) (queue' : ℕ → ℕ) (p : ℕ)
      → Levels B X queue head end tail round → head < end → p < B.size → X p ≡ true → B.Dep p (queue head)
      → X' p ≡ false → ((q : ℕ) → q ≢ p → X' q ≡ X q)
      → queue' tail ≡ p → ((i : ℕ) → i < tail → queue' i ≡ queue i)
      → Levels B X' queue' head end (suc tail) round
  strike X' queue' p s h l stood needs now other last same = record {
    head-end = s.head-end;
    end-tail = omega (arith, s.end-tail);
    round-end = s.round-end;
    lists = lists-more last same s.lists l stood now other;
    old = λ i li. subst (λ (x : ℕ). Struck B round x) (sym (same i (omega (arith, s.end-tail)))) (s.old i li);
    all_old = λ q lq f.
        let w = s.all_old q lq f in (w.0, w.1, same w.0 (omega (arith, w.1, s.end-tail)) ∙ w.2);
    fresh = λ i a li f. not-fresh i a li f (last-or-below li);
    new = each-entry last same (λ x. Struck B (suc round) x) (inr (queue head, needs, s.old head h)) s.new;
    done = λ i q li lq d.
        off q (s.done i q li lq (subst (λ (x : ℕ). B.Dep q x) (same i (omega (arith, s.end-tail))) d));
    base = λ q lq f. off q (s.base q lq f);
    noisy = s.noisy;
  }
    where
      off : (q : ℕ) → X q ≡ false → X' q ≡ false
      off q f = kept-value now other q f

      -- p stood, so it did not fall before
      not-old : Struck B round p → ⊥
      not-old f =
          let w = s.all_old p l f in
          let fell = (s.lists.queued w.0 (omega (arith, w.1, s.end-tail))).1 in
          never_both stood (subst (λ (x : ℕ). X x ≡ false) w.2 fell)

      not-fresh : (i : ℕ) → end ≤ i → i < suc tail → Struck B round (queue' i) → (i ≡ tail) ⊎ (i < tail) → ⊥
      not-fresh i a li f (inl e) = not-old (subst (λ (x : ℕ). Struck B round x) (ap queue' e ∙ last) f)
      not-fresh i a li f (inr m) = s.fresh i a m (subst (λ (x : ℕ). Struck B round x) (same i m) f)

  pub advance : Levels B X queue head end tail round → head < end
      → ((p : ℕ) → p < B.size → B.Dep p (queue head) → X p ≡ false)
      → Levels B X queue (suc head) end tail round
  advance s h f = record {
    head-end = h;
    end-tail = s.end-tail;
    round-end = s.round-end;
    lists = s.lists;
    old = s.old;
    all_old = s.all_old;
    fresh = s.fresh;
    new = s.new;
    done = λ i p li l d. ⊎_elim
        (λ (e : i ≡ head). f p l (subst (λ (x : ℕ). B.Dep p (queue x)) e d))
        (λ m. s.done i p m l d)
        (last-or-below li);
    base = s.base;
    noisy = s.noisy;
  }

module _ {B : Board} (inside : Inside B) where
  -- when a level is done, all that falls in the next round is struck
  level-on : {X : ℕ → Bool} {queue : ℕ → ℕ} {end tail round : ℕ} → Levels B X queue end end tail round
      → (p : ℕ) → p < B.size → Struck B (suc round) p → X p ≡ false
  level-on s p l (inl o) = s.base p l o
  level-on s p l (inr w) =
      let q = s.all_old w.0 (inside p w.0 l w.1) w.2 in
      s.done q.0 p q.1 l (subst (λ (x : ℕ). B.Dep p x) (sym q.2) w.1)

  pub next_level : {X : ℕ → Bool} {queue : ℕ → ℕ} {end tail round : ℕ} → Levels B X queue end end tail round
      → end < tail → Levels B X queue end tail tail (suc round)
  next_level {X} {queue} {end} {tail} {round} s g = record {
    head-end = omega arith;
    end-tail = omega arith;
    round-end = omega (arith, s.round-end);
    lists = s.lists;
    old = s.new;
    all_old = λ p l f. s.lists.listed p l (level-on s p l f);
    fresh = λ i a b. absurd (omega arith);
    new = λ i l. struck-more B (suc round) (queue i) (s.new i l);
    done = s.done;
    base = s.base;
    noisy = λ j h. ⊎_elim
        (λ (e : j ≡ round).
        subst (λ (x : ℕ). (p : ℕ) × (p < B.size) × Struck B (suc x) p × (Struck B x p → ⊥)) (sym e)
        (queue end, (s.lists.queued end g).0, s.new end g, s.fresh end (omega arith) g))
        (λ m. s.noisy j m) (last-or-below h);
  }

  pub finished : {X : ℕ → Bool} {queue : ℕ → ℕ} {end round : ℕ}
      → Levels B X queue end end end round → Finished B X end round
  finished {X} {queue} {end} {round} s = record {
    only-struck = struck-of;
    all-struck = λ p l f.
        let q = s.all_old p l f in subst (λ (x : ℕ). X x ≡ false) q.2 (s.lists.queued q.0 q.1).1;
    quiet = λ p l f. struck-of p l (level-on s p l f);
    noisy = s.noisy;
    count = s.lists.count;
    bound = s.round-end;
  }
    where
      struck-of : (p : ℕ) → p < B.size → X p ≡ false → Struck B round p
      struck-of p l f =
          let q = s.lists.listed p l f in subst (λ (x : ℕ). Struck B round x) q.2 (s.old q.0 q.1)

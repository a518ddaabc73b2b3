-- A queue of places that gets one entry more, and a set that changes in one place.
--   kept-value   what had the value that the changed place gets has it still
--   each-entry   what holds of the old entries and of the new one holds of all
--   queued-more  what was queued is queued
--   queued-last  the new entry is queued
--   lists-more   the place that fails from now on is listed with the others
-- Assumes nothing.
use mathlib.Core.Path.{◌≡◌, sym, ap, ◌∙◌, subst}
use mathlib.Core.Logic.{⊎_elim, ◌≢◌}
use mathlib.Core.Bool.{Bool, true, false, not}
use Prim.Native.Nat.{ℕ, suc, ◌<◌}
use native.Mathlib.Omega.{arith}
use Rattle.board.specs.Work.{Queued}
use Rattle.board.specs.Listing.{Lists}
use Rattle.words.proofs.Bools.{eq-or-ne, last-or-below, not-of-true, not_of_false}
use Rattle.board.proofs.Tally.{tally-more}

pub kept-value : {X X' : ℕ → Bool} {p : ℕ} {b : Bool} → X' p ≡ b → ((q : ℕ) → q ≢ p → X' q ≡ X q)
    → (q : ℕ) → X q ≡ b → X' q ≡ b
kept-value {X} {X'} {p} {b} now other q e = ⊎_elim
    (λ (x : q ≡ p). subst (λ (y : ℕ). X' y ≡ b) (sym x) now) (λ ne. other q ne ∙ e) (eq-or-ne q p)

module _ {queue queue' : ℕ → ℕ} {tail p : ℕ}
    (last : queue' tail ≡ p) (same : (i : ℕ) → i < tail → queue' i ≡ queue i) where
  pub each-entry : (P : ℕ → Type 0) → P p → ((i : ℕ) → i < tail → P (queue i))
      → (i : ℕ) → i < suc tail → P (queue' i)
  each-entry P here old i l = ⊎_elim
      (λ (e : i ≡ tail). subst (λ (x : ℕ). P (queue' x)) (sym e) (subst P (sym last) here))
      (λ m. subst P (sym (same i m)) (old i m))
      (last-or-below l)

  pub queued-more : {q : ℕ} → Queued queue tail q → Queued queue' (suc tail) q
  queued-more w = (w.0, omega (arith, w.1), same w.0 w.1 ∙ w.2)

  pub queued-last : Queued queue' (suc tail) p
  queued-last = (tail, omega arith, last)

  pub lists-more : {X X' : ℕ → Bool} {n : ℕ} → Lists X queue tail n → p < n → X p ≡ true
      → X' p ≡ false → ((q : ℕ) → q ≢ p → X' q ≡ X q) → Lists X' queue' (suc tail) n
  lists-more {X} {X'} {n} s l stood now other = record {
    count =
        ap suc s.count
        ∙ sym (tally-more (λ q. not (X q)) (λ q. not (X' q)) n p l (not-of-true stood) (not_of_false now)
        (λ i li ne. ap not (sym (other i ne))));
    queued = each-entry (λ x. (x < n) × (X' x ≡ false)) (l, now)
        (λ i m. ((s.queued i m).0, kept-value now other (queue i) (s.queued i m).1));
    listed = λ q lq f. ⊎_elim
        (λ (e : q ≡ p). subst (λ (x : ℕ). Queued queue' (suc tail) x) (sym e) queued-last)
        (λ ne. queued-more (s.listed q lq (sym (other q ne) ∙ f)))
        (eq-or-ne q p);
  }

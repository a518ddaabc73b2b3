-- The queue of the places that are not on.
--   listed-none, listed-skip, listed-add  of no places; of a place more, that is on or is queued
-- Assumes nothing.
use mathlib.Core.Path.{◌≡◌, refl, sym, ◌∙◌, subst}
use mathlib.Core.Logic.{⊎_elim}
use mathlib.Core.List.{List}
use mathlib.Core.Bool.{true, false, not}
use Prim.Native.Nat.{ℕ, suc, ◌+◌, ◌<◌}
use native.Mathlib.Nat.{not-suc-le-zero}
use native.Mathlib.Numerals.{add-one}
use native.Mathlib.Omega.{arith}
use lib.ListN.{length, set}
use lib.Seq.{get_or-set_same, get_or-set_other}
use Rattle.board.specs.Grid.{on, tally}
use Rattle.board.specs.Work.{entry, Queued}
use Rattle.board.specs.Listing.{Listed}
use Rattle.words.proofs.Bools.{never_both, not_of_false, not-of-true, last-or-below}
use Rattle.board.proofs.Tally.{tally-hit, tally-miss}
use Rattle.board.proofs.Queues.{each-entry, queued-more, queued-last}

pub listed-none : (g q : List ℕ) → Listed g q 0 0
unfolding tally
listed-none g q = record {
  count = refl;
  queued = λ i l. absurd (not-suc-le-zero l);
  listed = λ p l. absurd (not-suc-le-zero l);
}

module _ (g q : List ℕ) {t n : ℕ} (s : Listed g q t n) where
  pub listed-skip : on g n ≡ true → Listed g q t (n + 1)
  listed-skip e = record {
    count = s.count ∙ sym (tally-miss (λ p. not (on g p)) n (not-of-true e));
    queued = λ i l. let r = s.queued i l in (omega (arith, r.0), r.1);
    listed = λ p l f. ⊎_elim
        (λ (x : p ≡ n). never_both e (subst (λ (y : ℕ). on g y ≡ false) x f))
        (λ m. s.listed p m f)
        (last-or-below (rw add-one at l));
  }

  pub listed-add : on g n ≡ false → t < length q → Listed g (set q t n) (t + 1) (n + 1)
  listed-add e l = record {
    count = omega (arith, s.count, tally-hit (λ p. not (on g p)) n (not_of_false e));
    queued = rw (add-one t) (each-entry new old (λ x. (x < n + 1) × (on g x ≡ false)) (omega arith, e)
        (λ i m. let r = s.queued i m in (omega (arith, r.0), r.1)));
    listed = λ p lp f. rw (add-one t) (⊎_elim
        (λ (x : p ≡ n). subst (λ (y : ℕ). Queued (entry (set q t n)) (suc t) y) (sym x) (queued-last new old))
        (λ m. queued-more new old (s.listed p m f))
        (last-or-below (rw add-one at lp)));
  }
    where
      old : (i : ℕ) → i < t → entry (set q t n) i ≡ entry q i
      old i li = get_or-set_other q t i n 0 (omega arith)

      new : entry (set q t n) t ≡ n
      new = get_or-set_same q t n 0 l

-- The interval of a part says whether the counts of its labels are all 0: exactly then 0 lies in it.
--   same_tests     tests that are true together are one
--   inside-meet, inside-add   whether 0 lies in what both make
--   link-zero, zero_in        what lies in a link's interval where its label counts 0; 0 lies in it only then
--   all-zero-test  the labels of a part all count 0 exactly where 0 lies in its interval
-- Assumes nothing.
use Prim.Native.Nat.{ℕ, zero, suc, ◌*◌, ◌≤◌}
use mathlib.Core.Path.{◌≡◌, refl, ◌∙◌, ap₂}
use mathlib.Core.Logic.{◌⊎◌, inl, inr, ⊎_elim, ◌↔◌}
use mathlib.Core.Bool.{Bool, true, false, ◌&&◌}
use native.Mathlib.Omega.{arith}
use lib.Dec.{eqb, leb}
use borrow.Author.Tests.{eq-eqb, eqb-true}
use Rattle.bags.specs.Part.{Limit, at_most, no-limit, Part, nothing, star, plus, optional, choice, all, link}
use Rattle.bags.specs.Part.{Parts, none, more}
use Rattle.bags.specs.Interval.{Interval, empty, within, from, In, inside, keep, meet, add, link_interval}
use Rattle.bags.specs.Interval.{star_interval, plus_interval, all_zero, run_all_zero, interval, add_run, meet_run}
use Rattle.words.proofs.Bools.{never_both, is_false, bools-equal, and_first, and_second, and_both}
use Rattle.bags.proofs.Copies.{UnderTimes}
use Rattle.bags.proofs.Intervals.{Proper, in_meet, in-link, inside-exact, split-add, add-split}
use Rattle.bags.proofs.Exact.{part-proper, add-run-proper}

-- ---- links that count 0
under-zero : (i : ℕ) (high : Limit) → UnderTimes i 0 high
under-zero i (at_most h) = omega arith
under-zero i no-limit = inr refl

zero-under : (w : ℕ) (high : Limit) → UnderTimes 0 w high → w ≡ 0
zero-under w (at_most h) g = omega arith
zero-under w no-limit g = ⊎_elim (λ l. absurd (omega arith)) (λ e. e) g

zero-times : (i low : ℕ) → i * low ≤ 0 → (low ≡ 0) ⊎ (i ≡ 0)
zero-times zero low h = inr refl
zero-times (suc i) zero h = inl refl
zero-times (suc i) (suc l) h = absurd (omega arith)

times_zero : (i low : ℕ) → (low ≡ 0) ⊎ (i ≡ 0) → i * low ≤ 0
times_zero i low (inl e) = rw e (omega arith)
times_zero i low (inr e) = rw e (omega arith)

-- Where its label counts 0 a link allows any number if its low is 0, else only 0.
pub link-zero : (low : ℕ) (high : Limit) (i : ℕ) → In i (link_interval 0 low high) ↔ ((low ≡ 0) ⊎ (i ≡ 0))
link-zero low high i = (
  λ h. zero-times i low ((in-link 0 low high i).0 h).0,
  λ h. (in-link 0 low high i).1 (times_zero i low h, under-zero i high),
)

zero_in : (w low : ℕ) (high : Limit) → In 0 (link_interval w low high) → w ≡ 0
zero_in w low high h = zero-under w high ((in-link w low high 0).0 h).1

-- ---- tests
same_tests : (s t : Bool) → (s ≡ true) ↔ (t ≡ true) → s ≡ t
same_tests s t h = bools-equal h.0 (λ e. is_false (λ d. never_both (h.1 d) e))

-- Both tests pass exactly if a third does, where the number lies in both exactly if in a third.
both-tests : (i : ℕ) (I J K : Interval) → In i K ↔ (In i I × In i J) → inside i I && inside i J ≡ inside i K
both-tests i I J K both =
    let s : Bool = inside i I in
    let t : Bool = inside i J in
    let exact = inside-exact i K in
    same_tests (s && t) (inside i K) (
      λ e. exact.1 (both.1 ((inside-exact i I).0 (and_first s t e), (inside-exact i J).0 (and_second s t e))),
      λ e.
          let h = both.0 (exact.0 e) in
          and_both s t ((inside-exact i I).1 h.0) ((inside-exact i J).1 h.1),
    )

inside-meet : (i : ℕ) (I J : Interval) → inside i I && inside i J ≡ inside i (meet I J)
inside-meet i I J = both-tests i I J (meet I J) (in_meet I J i)

-- 0 is a sum of 0 and 0 alone.
zero-add : (I J : Interval) → Proper I → Proper J → In 0 (add I J) ↔ (In 0 I × In 0 J)
zero-add I J p q = (
  λ h.
      let (j, l, e, a, b) = add-split I J 0 p q h in
      let first : j ≡ 0 = omega arith in
      let second : l ≡ 0 = omega arith in
      (rw first at a, rw second at b),
  λ h. split-add I J 0 (0, 0, refl, h.0, h.1),
)

inside-add : (I J : Interval) → Proper I → Proper J → inside 0 I && inside 0 J ≡ inside 0 (add I J)
inside-add I J p q = both-tests 0 I J (add I J) (zero-add I J p q)

link-zero-test : (w low : ℕ) (high : Limit) → eqb w 0 ≡ inside 0 (link_interval w low high)
link-zero-test w low high = same_tests (eqb w 0) (inside 0 (link_interval w low high)) (
  λ e. (inside-exact 0 (link_interval w low high)).1 (rw (eqb-true w 0 e) ((link-zero low high 0).1 (inr refl))),
  λ e. eq-eqb w 0 (zero_in w low high ((inside-exact 0 (link_interval w low high)).0 e)),
)

star-test : (z : Bool) (I : Interval) → z ≡ inside 0 (star_interval z I)
star-test true I = refl
star-test false empty = refl
star-test false (within lo hi) = refl
star-test false (from lo) = refl

range-test : (t : Bool) (hi : ℕ) → false ≡ inside 0 (keep t (within 1 hi))
range-test true hi = refl
range-test false hi = refl

plus-test : (z : Bool) (I : Interval) → z ≡ inside 0 I → z ≡ inside 0 (plus_interval z I)
plus-test true I e = e
plus-test false empty e = refl
plus-test false (within lo hi) e = range-test (leb 1 hi) hi
plus-test false (from lo) e = refl

mutual
  pub all-zero-test : (p : Part) (w : ℕ → ℕ) → all_zero p w ≡ inside 0 (interval p w)
  all-zero-test nothing w = refl
  all-zero-test (star p) w = star-test (all_zero p w) (interval p w)
  all-zero-test (plus p) w = plus-test (all_zero p w) (interval p w) (all-zero-test p w)
  all-zero-test (optional p) w = all-zero-test p w ∙ inside-add (from 0) (interval p w) tt (part-proper w p)
  all-zero-test (choice ps) w = run-add-test ps w
  all-zero-test (all ps) w = run-meet-test ps w
  all-zero-test (link label shape low high) w = link-zero-test (w label) low high

  run-add-test : (ps : Parts) (w : ℕ → ℕ) → run_all_zero ps w ≡ inside 0 (add_run ps w)
  run-add-test none w = refl
  run-add-test (more p ps) w =
      ap₂ ◌&&◌ (all-zero-test p w) (run-add-test ps w)
      ∙ inside-add (interval p w) (add_run ps w) (part-proper w p) (add-run-proper w ps)

  run-meet-test : (ps : Parts) (w : ℕ → ℕ) → run_all_zero ps w ≡ inside 0 (meet_run ps w)
  run-meet-test none w = refl
  run-meet-test (more p ps) w =
      ap₂ ◌&&◌ (all-zero-test p w) (run-meet-test ps w) ∙ inside-meet 0 (interval p w) (meet_run ps w)

-- The tests decide.
--   ok              no label stands twice and every shape is below S; ok-true: so it is where the test is true
--   others-at, others-all   the test `others_zero` is that of each label
--   others-exact    a shape is open or passes the test `others_zero` exactly where the labels that it looks at and does
--                   not name count 0
--   fits-decided    the test `fits` is true exactly where the counts looked at fit; list-decided: for a list of counts
-- Assumes nothing.
use Prim.Native.Nat.{ℕ, zero, suc, ◌≤◌, ◌<◌}
use mathlib.Core.Path.{◌≡◌, refl, sym, ◌∙◌, ap, subst}
use mathlib.Core.Logic.{⊎_elim, ◌↔◌}
use mathlib.Core.Bool.{Bool, true, false, ◌&&◌, ◌||◌, not, true≢false}
use mathlib.Core.List.{List}
use native.Mathlib.Omega.{arith}
use lib.ListN.{length}
use lib.Dec.{eqb, ltb}
use borrow.Author.Tests.{eq-eqb, eqb-true, ltb-true, not-true}
use Rattle.bags.specs.Part.{Part, nothing, star, plus, optional, choice, all, link, Parts, none, more, Names}
use Rattle.words.specs.Limits.{max_kinds}
use Rattle.bags.specs.Part.{RunNames, names, run_names, Single, RunSingle, ShapesBelow, RunShapesBelow}
use Rattle.bags.specs.Bag.{Fits}
use Rattle.bags.specs.Look.{looks_at, seen, listed}
use Rattle.bags.specs.Interval.{In, inside, interval, others_zero, fits}
use Rattle.words.proofs.Bools.{never_both, and_first, and_second, and_both, or_cases, or_left, or_right, bool_case}
use Rattle.words.proofs.Bools.{le-or-lt, last-or-below}
use Rattle.bags.proofs.Naming.{names-exact, run-names-exact}
use Rattle.bags.proofs.Intervals.{inside-exact}
use Rattle.bags.proofs.Exact.{fits-exact}
use Rattle.bags.proofs.Looking.{looks-outgoing, looks-named, looks-cases, seen_at, seen-not, listed-none}
use Rattle.bags.proofs.Looking.{interval-alike}

-- No label of the part is one for which f is true.
abbrev mutual
  clear : Part → (ℕ → Bool) → Bool
  clear nothing f = true
  clear (star p) f = clear p f
  clear (plus p) f = clear p f
  clear (optional p) f = clear p f
  clear (choice ps) f = run_clear ps f
  clear (all ps) f = run_clear ps f
  clear (link label shape low high) f = not (f label)

  run_clear : Parts → (ℕ → Bool) → Bool
  run_clear none f = true
  run_clear (more p ps) f = clear p f && run_clear ps f

mutual
  clear-true : (p : Part) (f : ℕ → Bool) → clear p f ≡ true → (k : ℕ) → Names p k → f k ≡ false
  clear-true nothing f e k n = absurd n
  clear-true (star p) f e k n = clear-true p f e k n
  clear-true (plus p) f e k n = clear-true p f e k n
  clear-true (optional p) f e k n = clear-true p f e k n
  clear-true (choice ps) f e k n = run-clear-true ps f e k n
  clear-true (all ps) f e k n = run-clear-true ps f e k n
  clear-true (link label shape low high) f e k n = ap f n ∙ not-true (f label) e

  run-clear-true : (ps : Parts) (f : ℕ → Bool) → run_clear ps f ≡ true → (k : ℕ) → RunNames ps k → f k ≡ false
  run-clear-true none f e k n = absurd n
  run-clear-true (more p ps) f e k n =
      ⊎_elim
      (λ m. clear-true p f (and_first (clear p f) (run_clear ps f) e) k m)
      (λ m. run-clear-true ps f (and_second (clear p f) (run_clear ps f) e) k m)
      n

-- No label twice, and shapes below S.
abbrev mutual
  pub ok : ℕ → Part → Bool
  ok S nothing = true
  ok S (star p) = ok S p
  ok S (plus p) = ok S p
  ok S (optional p) = ok S p
  ok S (choice ps) = run_ok S ps
  ok S (all ps) = run_ok S ps
  ok S (link label shape low high) = ltb shape S

  run_ok : ℕ → Parts → Bool
  run_ok S none = true
  run_ok S (more p ps) = ok S p && (run_ok S ps && clear p (run_names ps))

mutual
  pub ok-true : (S : ℕ) (p : Part) → ok S p ≡ true → Single p × ShapesBelow S p
  ok-true S nothing e = (tt, tt)
  ok-true S (star p) e = ok-true S p e
  ok-true S (plus p) e = ok-true S p e
  ok-true S (optional p) e = ok-true S p e
  ok-true S (choice ps) e = run-ok-true S ps e
  ok-true S (all ps) e = run-ok-true S ps e
  ok-true S (link label shape low high) e = (tt, ltb-true shape S e)

  run-ok-true : (S : ℕ) (ps : Parts) → run_ok S ps ≡ true → RunSingle ps × RunShapesBelow S ps
  run-ok-true S none e = (tt, tt)
  run-ok-true S (more p ps) e =
      let rest : Bool = run_ok S ps && clear p (run_names ps) in
      let d : rest ≡ true = and_second (ok S p) rest e in
      let h = ok-true S p (and_first (ok S p) rest e) in
      let g = run-ok-true S ps (and_first (run_ok S ps) (clear p (run_names ps)) d) in
      let c : clear p (run_names ps) ≡ true = and_second (run_ok S ps) (clear p (run_names ps)) d in (
        (h.0, g.0, λ k n m. true≢false (sym ((run-names-exact ps k).1 m) ∙ clear-true p (run_names ps) c k n)),
        (h.1, g.1),
      )

-- The test looks at the labels below a number.
module _ (p : Part) (w : ℕ → ℕ) where
  -- the test of one label
  abbrev pub Passes : ℕ → Type 0
  Passes k = (names p k || eqb (w k) 0) ≡ true

  pub others-at : (labels : ℕ) → others_zero labels p w ≡ true → (k : ℕ) → k < labels → Passes k
  others-at zero e k l = absurd (omega arith)
  others-at (suc labels) e k l =
      let last : Bool = names p labels || eqb (w labels) 0 in
      ⊎_elim
      (λ q. subst Passes (sym q) (and_second (others_zero labels p w) last e))
      (λ b. others-at labels (and_first (others_zero labels p w) last e) k b)
      (last-or-below l)

  pub others-all : (labels : ℕ) → ((k : ℕ) → k < labels → Passes k) → others_zero labels p w ≡ true
  others-all zero each = refl
  others-all (suc labels) each =
      and_both (others_zero labels p w) (names p labels || eqb (w labels) 0)
      (others-all labels (λ k l. each k (omega arith))) (each labels (omega arith))

  others-zero : (labels : ℕ) → others_zero labels p w ≡ true → (k : ℕ) → k < labels → (Names p k → ⊥) → w k ≡ 0
  others-zero labels e k l n =
      ⊎_elim (λ d. absurd (n ((names-exact p k).0 d))) (λ d. eqb-true (w k) 0 d)
      (or_cases (names p k) (eqb (w k) 0) (others-at labels e k l))

  zero-others : (labels : ℕ) → ((k : ℕ) → k < labels → (Names p k → ⊥) → w k ≡ 0) → others_zero labels p w ≡ true
  zero-others labels h =
      others-all labels (λ k l. bool_case (names p k)
      (λ e. or_left (names p k) (eqb (w k) 0) e)
      (λ e. or_right (names p k) (eqb (w k) 0)
      (eq-eqb (w k) 0 (h k l (λ m. never_both ((names-exact p k).1 m) e)))))

-- Counts of labels in which the outgoing ones that are no kinds are 0.
module _ (is_open : Bool) (p : Part) (w : ℕ → ℕ) (kinds : ℕ) (few : kinds ≤ max_kinds)
    (rest : (k : ℕ) → kinds ≤ k → k < max_kinds → w k ≡ 0) where
  outgoing-zero : (is_open || others_zero kinds p w) ≡ true → is_open ≡ false → (k : ℕ) → (Names p k → ⊥) → k <
      max_kinds
      → w k ≡ 0
  outgoing-zero e shut k n h = ⊎_elim
      (λ l. rest k l h)
      (λ l. ⊎_elim
      (λ o. never_both o shut) (λ z. others-zero p w kinds z k l n) (or_cases is_open (others_zero kinds p w) e))
      (le-or-lt kinds k)

  unnamed-zero : (is_open || others_zero kinds p w) ≡ true → (k : ℕ) → (Names p k → ⊥) → seen is_open p w k ≡ 0
  unnamed-zero e k n = bool_case (looks_at is_open p k)
      (λ l. seen_at is_open p w k l ∙ ⊎_elim
      (λ m. absurd (n m)) (λ h. outgoing-zero e h.0 k n h.1) (looks-cases is_open p k l))
      (λ l. seen-not is_open p w k l)

  zero-unnamed : ((k : ℕ) → (Names p k → ⊥) → seen is_open p w k ≡ 0) → (is_open || others_zero kinds p w) ≡ true
  zero-unnamed h = bool_case is_open
      (λ o. or_left is_open (others_zero kinds p w) o)
      (λ shut. or_right is_open (others_zero kinds p w)
      (zero-others p w kinds (λ k l n.
      sym (seen_at is_open p w k (looks-outgoing is_open p k shut (omega arith))) ∙ h k n)))

  others-exact : ((is_open || others_zero kinds p w) ≡ true) ↔ ((k : ℕ) → (Names p k → ⊥) → seen is_open p w k ≡ 0)
  others-exact = (unnamed-zero, zero-unnamed)

  -- what the shape looks at fits exactly where the test is passed
  pub fits-decided : (S : ℕ) → Single p → ShapesBelow S p → Fits S p (seen is_open p w) ↔ (fits is_open kinds p w ≡
      true)
  fits-decided S one below =
      let fit = inside 1 (interval p w) in
      let others = is_open || others_zero kinds p w in
      let same = interval-alike (seen is_open p w) w p (λ k n. seen_at is_open p w k (looks-named is_open p k n)) in
      let by-interval = fits-exact S p (seen is_open p w) one below in
      let by-test = inside-exact 1 (interval p w) in (
        λ f.
            let (h, z) = by-interval.0 f in
            and_both fit others (by-test.1 (subst (In 1) same h)) (others-exact.1 z),
        λ e.
            by-interval.1
            (subst (In 1) (sym same) (by-test.0 (and_first fit others e)), others-exact.0 (and_second fit others e)),
      )

-- A list with the counts of so many kinds each way.
pub list-decided :
    (S : ℕ) (is_open : Bool) (p : Part) (kinds : ℕ) (counts : List ℕ) → kinds ≤ max_kinds → kinds ≤ length counts →
    Single p → ShapesBelow S p →
    Fits S p (seen is_open p (listed kinds counts)) ↔ (fits is_open kinds p (listed kinds counts) ≡ true)
list-decided S is_open p kinds counts few room one below =
    fits-decided is_open p (listed kinds counts) kinds few (λ k l h. listed-none kinds counts k l h room) S one below

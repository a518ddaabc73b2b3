-- What a shape looks at on a card: every label that its part names, and every outgoing one if it is closed.
--   looks-outgoing, looks-named, looks-cases   at which labels a shape looks; looks-open: an open one
--   seen_at, seen-not, seen_alike              the counts that it looks at
--   looked-exact    a neighbour is looked at exactly if it is one and its label is looked at
--   looked-count    the count of a label over the neighbours looked at
--   listed-outgoing, listed-incoming, listed-none   a list of counts as counts of labels
--   interval-alike  the interval of a part goes by the counts of its labels alone
--   fits-alike      the test of counts goes by those and by those of the outgoing kinds
-- Assumes nothing.
use Prim.Native.Nat.{ℕ, zero, suc, ◌+◌, ◌-◌, ◌≤◌, ◌<◌}
use mathlib.Core.Path.{◌≡◌, refl, sym, ◌∙◌, ap, ap₂, subst, fun_ext}
use mathlib.Core.Logic.{◌⊎◌, inl, inr, ⊎_elim, ◌↔◌}
use mathlib.Core.Bool.{Bool, true, false, ◌&&◌, ◌||◌, not, cond, true≢false, false≢true}
use mathlib.Core.List.Memᴰ
use mathlib.Core.List.{List, [], ◌∷◌, Memᴰ}
use native.Mathlib.Omega.{arith}
use lib.ListN.{length, get_or, take, get_or-eq_default}
use lib.Seq.{get_or-take, get_or-drop, length-take-le}
use lib.Dec.{eqb, ltb}
use borrow.Author.Tests.{lt-ltb, le-ltb, ltb-true, not-true}
use Rattle.words.specs.Limits.{max_kinds}
use Rattle.words.proofs.Bools.{never_both, bool_case, and_first, and_second, and_both, or_cases, or_left, or_right}
use Rattle.bags.specs.Label.{incoming, label_of}
use Rattle.bags.specs.Part.{Part, nothing, star, plus, optional, choice, all, link, Parts, none, more, Names}
use Rattle.bags.specs.Part.{RunNames, names}
use Rattle.bags.specs.Bag.{when}
use Rattle.bags.specs.Choice.{Neighbour, to}
use Rattle.bags.specs.Look.{looks_at, seen, looked_at, listed}
use Rattle.bags.specs.Proposition.{label_count}
use Rattle.bags.specs.Interval.{add, meet, from, inside, all_zero}
use Rattle.bags.specs.Interval.{star_interval, plus_interval, link_interval}
use Rattle.bags.specs.Interval.{run_all_zero, interval, add_run, meet_run, others_zero, fits}
use Rattle.bags.proofs.Totals.{when-no}
use Rattle.bags.proofs.Naming.{names-exact}

-- ---- labels
module _ (is_open : Bool) (p : Part) (k : ℕ) where
  -- outgoing, and of a closed shape
  abbrev outward : Bool
  outward = ltb k max_kinds && not is_open

  pub looks-outgoing : is_open ≡ false → k < max_kinds → looks_at is_open p k ≡ true
  unfolding looks_at
  looks-outgoing shut l =
      or_right (names p k) outward (and_both (ltb k max_kinds) (not is_open) (lt-ltb k max_kinds l) (ap not shut))

  pub looks-named : Names p k → looks_at is_open p k ≡ true
  unfolding looks_at
  looks-named n = or_left (names p k) outward ((names-exact p k).1 n)

  pub looks-cases : looks_at is_open p k ≡ true → Names p k ⊎ ((is_open ≡ false) × (k < max_kinds))
  unfolding looks_at
  looks-cases e = ⊎_elim
      (λ n. inl ((names-exact p k).0 n))
      (λ o. inr (
        not-true is_open (and_second (ltb k max_kinds) (not is_open) o),
        ltb-true k max_kinds (and_first (ltb k max_kinds) (not is_open) o),
      ))
      (or_cases (names p k) outward e)

-- An open shape looks at just the labels that it names.
pub looks-open : (p : Part) (k : ℕ) → (looks_at true p k ≡ true) ↔ Names p k
looks-open p k = (
  λ e. ⊎_elim (λ n. n) (λ o. never_both refl o.0) (looks-cases true p k e),
  looks-named true p k,
)

-- ---- counts
pub seen_at : (is_open : Bool) (p : Part) (w : ℕ → ℕ) (k : ℕ) → looks_at is_open p k ≡ true → seen is_open p w k ≡ w k
seen_at is_open p w k e = ap (λ (b : Bool). when b (w k)) e

pub seen-not : (is_open : Bool) (p : Part) (w : ℕ → ℕ) (k : ℕ) → looks_at is_open p k ≡ false → seen is_open p w k ≡ 0
seen-not is_open p w k e = ap (λ (b : Bool). when b (w k)) e

-- Counts that agree where a shape looks are seen alike.
pub seen_alike : (is_open : Bool) (p : Part) (w v : ℕ → ℕ) → ((k : ℕ) → looks_at is_open p k ≡ true → w k ≡ v k)
    → seen is_open p w ≡ seen is_open p v
seen_alike is_open p w v h = fun_ext (λ k. bool_case (looks_at is_open p k)
    (λ e. seen_at is_open p w k e ∙ h k e ∙ sym (seen_at is_open p v k e))
    (λ e. seen-not is_open p w k e ∙ sym (seen-not is_open p v k e)))

-- ---- neighbours
module _ (is_open : Bool) (p : Part) (label far : ℕ) (ns : List Neighbour) where
  looked-here : looks_at is_open p label ≡ true
      → looked_at is_open p (to label far ∷ ns) ≡ to label far ∷ looked_at is_open p ns
  unfolding looked_at
  looked-here e = ap (λ (b : Bool). cond b (to label far ∷ looked_at is_open p ns) (looked_at is_open p ns)) e

  looked-past : looks_at is_open p label ≡ false → looked_at is_open p (to label far ∷ ns) ≡ looked_at is_open p ns
  unfolding looked_at
  looked-past e = ap (λ (b : Bool). cond b (to label far ∷ looked_at is_open p ns) (looked_at is_open p ns)) e

module _ (is_open : Bool) (p : Part) (k m : ℕ) where
  looked-mem : (ns : List Neighbour) → Memᴰ (to k m) (looked_at is_open p ns)
      → Memᴰ (to k m) ns × (looks_at is_open p k ≡ true)
  unfolding looked_at
  looked-mem [] h = absurd (Memᴰ.not-nil h)
  looked-mem (to label far ∷ ns) h = bool_case (looks_at is_open p label)
      (λ e. ⊎_elim
      (λ q.
      let same : label ≡ k = cc in
      (Memᴰ.head q, subst (λ (x : ℕ). looks_at is_open p x ≡ true) same e))
      (λ d. let (r, l) = looked-mem ns d in (Memᴰ.tail r, l))
      (Memᴰ.cases_cons (subst (Memᴰ (to k m)) (looked-here is_open p label far ns e) h)))
      (λ e.
      let (r, l) = looked-mem ns (subst (Memᴰ (to k m)) (looked-past is_open p label far ns e) h) in
      (Memᴰ.tail r, l))

  mem-looked : (ns : List Neighbour) → Memᴰ (to k m) ns → looks_at is_open p k ≡ true
      → Memᴰ (to k m) (looked_at is_open p ns)
  mem-looked [] h l = absurd (Memᴰ.not-nil h)
  mem-looked (to label far ∷ ns) h l = bool_case (looks_at is_open p label)
      (λ e. subst (Memᴰ (to k m)) (sym (looked-here is_open p label far ns e))
      (⊎_elim (λ q. Memᴰ.head q) (λ d. Memᴰ.tail (mem-looked ns d l)) (Memᴰ.cases_cons h)))
      (λ e. subst (Memᴰ (to k m)) (sym (looked-past is_open p label far ns e))
      (⊎_elim
      (λ q.
      let same : k ≡ label = cc in
      never_both (subst (λ (x : ℕ). looks_at is_open p x ≡ true) same l) e)
      (λ d. mem-looked ns d l)
      (Memᴰ.cases_cons h)))

  pub looked-exact : (ns : List Neighbour)
      → Memᴰ (to k m) (looked_at is_open p ns) ↔ (Memᴰ (to k m) ns × (looks_at is_open p k ≡ true))
  looked-exact ns = (looked-mem ns, λ h. mem-looked ns h.0 h.1)

-- A label counts among the neighbours looked at what it counts among all, if it is looked at, else 0.
module _ (is_open : Bool) (p : Part) (label far : ℕ) (ns : List Neighbour) (k : ℕ) where
  -- one of two labels is looked at and the other is not
  apart : {a b : Bool} → looks_at is_open p label ≡ a → looks_at is_open p k ≡ b → (a ≡ b → ⊥) → when (eqb k label)
      1 ≡ 0
  apart e l ne = when-no k label 1 (λ q. ne (sym e ∙ ap (looks_at is_open p) (sym q) ∙ l))

  seen_more : label_count (looked_at is_open p ns) k ≡ seen is_open p (label_count ns) k
      → label_count (looked_at is_open p (to label far ∷ ns)) k ≡ seen is_open p (label_count (to label far ∷ ns)) k
  seen_more rest =
      let more : ℕ → ℕ = label_count (to label far ∷ ns) in
      let looked = seen_at is_open p (label_count ns) k in
      let passed = seen-not is_open p (label_count ns) k in
      bool_case (looks_at is_open p label)
      (λ e. ap (λ (xs : List Neighbour). label_count xs k) (looked-here is_open p label far ns e)
      ∙ bool_case (looks_at is_open p k)
      (λ l. omega (arith, rest, looked l, seen_at is_open p more k l))
      (λ l. omega (arith, rest, passed l, seen-not is_open p more k l, apart e l true≢false)))
      (λ e. ap (λ (xs : List Neighbour). label_count xs k) (looked-past is_open p label far ns e)
      ∙ bool_case (looks_at is_open p k)
      (λ l. omega (arith, rest, looked l, seen_at is_open p more k l, apart e l false≢true))
      (λ l. omega (arith, rest, passed l, seen-not is_open p more k l)))

pub looked-count : (is_open : Bool) (p : Part) (ns : List Neighbour) (k : ℕ)
    → label_count (looked_at is_open p ns) k ≡ seen is_open p (label_count ns) k
unfolding looked_at
looked-count is_open p [] k = bool_case (looks_at is_open p k)
    (λ e. sym (seen_at is_open p (label_count []) k e)) (λ e. sym (seen-not is_open p (label_count []) k e))
looked-count is_open p (to label far ∷ ns) k = seen_more is_open p label far ns k (looked-count is_open p ns k)

-- ---- a list of counts
module _ (kinds : ℕ) (counts : List ℕ) where
  listed-low : (k : ℕ) → k < max_kinds → listed kinds counts k ≡ get_or (take kinds counts) k 0
  unfolding listed
  listed-low k l = rw (lt-ltb k max_kinds l) refl

  pub listed-outgoing : kinds ≤ max_kinds → (k : ℕ) → k < kinds → listed kinds counts k ≡ get_or counts k 0
  listed-outgoing few k l = listed-low k (omega arith) ∙ get_or-take kinds counts k 0 l

  -- an outgoing label past the kinds
  pub listed-none : (k : ℕ) → kinds ≤ k → k < max_kinds → kinds ≤ length counts → listed kinds counts k ≡ 0
  listed-none k l h room =
      listed-low k h ∙ get_or-eq_default (take kinds counts) 0 (omega (arith, length-take-le kinds counts room))

  pub listed-incoming : (k : ℕ) → listed kinds counts (label_of incoming k) ≡ get_or counts (kinds + k) 0
  unfolding listed
  listed-incoming k =
      let past : max_kinds + k - max_kinds ≡ k = omega arith in
      rw (le-ltb (max_kinds + k) max_kinds (omega arith), past) (get_or-drop kinds counts k 0)

-- ---- the test of counts
module _ (w v : ℕ → ℕ) where
  mutual
    zero-alike : (p : Part) → ((k : ℕ) → Names p k → w k ≡ v k) → all_zero p w ≡ all_zero p v
    zero-alike nothing h = refl
    zero-alike (star p) h = zero-alike p h
    zero-alike (plus p) h = zero-alike p h
    zero-alike (optional p) h = zero-alike p h
    zero-alike (choice ps) h = run-zero-alike ps h
    zero-alike (all ps) h = run-zero-alike ps h
    zero-alike (link label shape low high) h = ap (λ (n : ℕ). eqb n 0) (h label refl)

    run-zero-alike : (ps : Parts) → ((k : ℕ) → RunNames ps k → w k ≡ v k) → run_all_zero ps w ≡ run_all_zero ps v
    run-zero-alike none h = refl
    run-zero-alike (more p ps) h =
        ap₂ ◌&&◌ (zero-alike p (λ k n. h k (inl n))) (run-zero-alike ps (λ k n. h k (inr n)))

  mutual
    pub interval-alike : (p : Part) → ((k : ℕ) → Names p k → w k ≡ v k) → interval p w ≡ interval p v
    interval-alike nothing h = refl
    interval-alike (star p) h = ap₂ star_interval (zero-alike p h) (interval-alike p h)
    interval-alike (plus p) h = ap₂ plus_interval (zero-alike p h) (interval-alike p h)
    interval-alike (optional p) h = ap (add (from 0)) (interval-alike p h)
    interval-alike (choice ps) h = add-alike ps h
    interval-alike (all ps) h = meet-alike ps h
    interval-alike (link label shape low high) h = ap (λ (n : ℕ). link_interval n low high) (h label refl)

    add-alike : (ps : Parts) → ((k : ℕ) → RunNames ps k → w k ≡ v k) → add_run ps w ≡ add_run ps v
    add-alike none h = refl
    add-alike (more p ps) h =
        ap₂ add (interval-alike p (λ k n. h k (inl n))) (add-alike ps (λ k n. h k (inr n)))

    meet-alike : (ps : Parts) → ((k : ℕ) → RunNames ps k → w k ≡ v k) → meet_run ps w ≡ meet_run ps v
    meet-alike none h = refl
    meet-alike (more p ps) h =
        ap₂ meet (interval-alike p (λ k n. h k (inl n))) (meet-alike ps (λ k n. h k (inr n)))

  others-alike : (p : Part) (kinds : ℕ) → ((k : ℕ) → k < kinds → w k ≡ v k)
      → others_zero kinds p w ≡ others_zero kinds p v
  others-alike p zero h = refl
  others-alike p (suc kinds) h =
      ap₂ ◌&&◌ (others-alike p kinds (λ k l. h k (omega arith)))
      (ap (λ (n : ℕ). names p kinds || eqb n 0) (h kinds (omega arith)))

  pub fits-alike : (is_open : Bool) (p : Part) (kinds : ℕ) → ((k : ℕ) → k < kinds → w k ≡ v k)
      → ((k : ℕ) → Names p k → w k ≡ v k) → fits is_open kinds p w ≡ fits is_open kinds p v
  fits-alike is_open p kinds outward named =
      ap₂ ◌&&◌ (ap (inside 1) (interval-alike p named)) (ap (◌||◌ is_open) (others-alike p kinds outward))

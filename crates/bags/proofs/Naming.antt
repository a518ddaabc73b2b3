-- What stands in a part.
--   names-exact         the test `names` is true exactly for the labels that stand there
--   names-dec           whether a label stands there is decided
--   names-kind          such a label is that of a kind below L; declares-below: a declared shape is below S
--   declares-names, names-declares   a label stands there exactly where a shape is declared for it
--   declares-unique     with no label twice, one shape is declared for a label
--   named_none          an entry 0: the label does not stand there; named-declares: another entry is a declared shape
--   named-exact         with no label twice, the entry is s + 1 exactly where s is declared
--   named-names         the test and the entry agree
-- Assumes nothing.
use Prim.Native.Nat.{ℕ, zero, suc, ◌<◌}
use mathlib.Core.Path.{◌≡◌, refl, sym, ◌∙◌, ap, subst}
use mathlib.Core.Logic.{◌⊎◌, inl, inr, ⊎_elim, ◌↔◌}
use mathlib.Core.Bool.{Bool, true, false, not, true≢false, false≢true}
use native.Mathlib.Omega.{arith}
use lib.Dec.{eqb}
use borrow.Author.Tests.{eq-eqb, ne_eqb, eqb-true, eqb-false}
use Rattle.bags.specs.Part.{Part, nothing, star, plus, optional, choice, all, link, Parts, none, more, Names}
use Rattle.bags.specs.Part.{RunNames, Declares, RunDeclares, Single, RunSingle, ShapesBelow, RunShapesBelow}
use Rattle.bags.specs.Part.{KindsBelow, RunKindsBelow, names, run_names}
use Rattle.bags.specs.Label.{Way, label_of}
use Rattle.bags.specs.Named.{entry, first_entry, named, run_named}
use Rattle.words.proofs.Bools.{or_cases, or_left, or_right}

mutual
  names-true : (p : Part) (k : ℕ) → names p k ≡ true → Names p k
  names-true nothing k e = false≢true e
  names-true (star p) k e = names-true p k e
  names-true (plus p) k e = names-true p k e
  names-true (optional p) k e = names-true p k e
  names-true (choice ps) k e = run-names-true ps k e
  names-true (all ps) k e = run-names-true ps k e
  names-true (link label shape low high) k e = eqb-true k label e

  run-names-true : (ps : Parts) (k : ℕ) → run_names ps k ≡ true → RunNames ps k
  run-names-true none k e = false≢true e
  run-names-true (more p ps) k e =
      ⊎_elim (λ d. inl (names-true p k d)) (λ d. inr (run-names-true ps k d)) (or_cases (names p k) (run_names ps k) e)

mutual
  true-names : (p : Part) (k : ℕ) → Names p k → names p k ≡ true
  true-names nothing k n = absurd n
  true-names (star p) k n = true-names p k n
  true-names (plus p) k n = true-names p k n
  true-names (optional p) k n = true-names p k n
  true-names (choice ps) k n = true-run-names ps k n
  true-names (all ps) k n = true-run-names ps k n
  true-names (link label shape low high) k n = eq-eqb k label n

  true-run-names : (ps : Parts) (k : ℕ) → RunNames ps k → run_names ps k ≡ true
  true-run-names none k n = absurd n
  true-run-names (more p ps) k n =
      ⊎_elim
      (λ m. or_left (names p k) (run_names ps k) (true-names p k m))
      (λ m. or_right (names p k) (run_names ps k) (true-run-names ps k m))
      n

pub names-exact : (p : Part) (k : ℕ) → (names p k ≡ true) ↔ Names p k
names-exact p k = (names-true p k, true-names p k)

pub run-names-exact : (ps : Parts) (k : ℕ) → (run_names ps k ≡ true) ↔ RunNames ps k
run-names-exact ps k = (run-names-true ps k, true-run-names ps k)

pub names-dec : (p : Part) (k : ℕ) → Dec (Names p k)
names-dec p k = decide (names p k) refl
  where
    decide : (t : Bool) → names p k ≡ t → Dec (Names p k)
    decide true e = yes (names-true p k e)
    decide false e = no (λ n. true≢false (sym (true-names p k n) ∙ e))

-- The label k is that of a kind below L, one way or the other.
abbrev pub OfKindBelow : ℕ → ℕ → Type 0
OfKindBelow L k = (way : Way) × (kind : ℕ) × (kind < L) × (k ≡ label_of way kind)

mutual
  pub names-kind : (L : ℕ) (p : Part) → KindsBelow L p → (k : ℕ) → Names p k → OfKindBelow L k
  names-kind L nothing h k n = absurd n
  names-kind L (star p) h k n = names-kind L p h k n
  names-kind L (plus p) h k n = names-kind L p h k n
  names-kind L (optional p) h k n = names-kind L p h k n
  names-kind L (choice ps) h k n = run-names-kind L ps h k n
  names-kind L (all ps) h k n = run-names-kind L ps h k n
  names-kind L (link label shape low high) h k n = subst (OfKindBelow L) (sym n) h

  run-names-kind : (L : ℕ) (ps : Parts) → RunKindsBelow L ps → (k : ℕ) → RunNames ps k → OfKindBelow L k
  run-names-kind L none h k n = absurd n
  run-names-kind L (more p ps) h k n =
      ⊎_elim (λ m. names-kind L p h.0 k m) (λ m. run-names-kind L ps h.1 k m) n

mutual
  pub declares-below : (S : ℕ) (p : Part) → ShapesBelow S p → (k s : ℕ) → Declares p k s → s < S
  declares-below S nothing h k s d = absurd d
  declares-below S (star p) h k s d = declares-below S p h k s d
  declares-below S (plus p) h k s d = declares-below S p h k s d
  declares-below S (optional p) h k s d = declares-below S p h k s d
  declares-below S (choice ps) h k s d = run-declares-below S ps h k s d
  declares-below S (all ps) h k s d = run-declares-below S ps h k s d
  declares-below S (link label shape low high) h k s d = subst (λ (j : ℕ). j < S) (sym d.1) h

  run-declares-below : (S : ℕ) (ps : Parts) → RunShapesBelow S ps → (k s : ℕ) → RunDeclares ps k s → s < S
  run-declares-below S none h k s d = absurd d
  run-declares-below S (more p ps) h k s d =
      ⊎_elim (λ a. declares-below S p h.0 k s a) (λ a. run-declares-below S ps h.1 k s a) d

mutual
  pub declares-names : (p : Part) (k s : ℕ) → Declares p k s → Names p k
  declares-names nothing k s d = d
  declares-names (star p) k s d = declares-names p k s d
  declares-names (plus p) k s d = declares-names p k s d
  declares-names (optional p) k s d = declares-names p k s d
  declares-names (choice ps) k s d = run-declares-names ps k s d
  declares-names (all ps) k s d = run-declares-names ps k s d
  declares-names (link label shape low high) k s d = d.0

  run-declares-names : (ps : Parts) (k s : ℕ) → RunDeclares ps k s → RunNames ps k
  run-declares-names none k s d = d
  run-declares-names (more p ps) k s d =
      ⊎_elim (λ a. inl (declares-names p k s a)) (λ a. inr (run-declares-names ps k s a)) d

mutual
  pub declares-unique : (p : Part) → Single p → (k s t : ℕ) → Declares p k s → Declares p k t → s ≡ t
  declares-unique nothing u k s t d e = absurd d
  declares-unique (star p) u k s t d e = declares-unique p u k s t d e
  declares-unique (plus p) u k s t d e = declares-unique p u k s t d e
  declares-unique (optional p) u k s t d e = declares-unique p u k s t d e
  declares-unique (choice ps) u k s t d e = run-declares-unique ps u k s t d e
  declares-unique (all ps) u k s t d e = run-declares-unique ps u k s t d e
  declares-unique (link label shape low high) u k s t d e = d.1 ∙ sym e.1

  run-declares-unique : (ps : Parts) → RunSingle ps → (k s t : ℕ) → RunDeclares ps k s → RunDeclares ps k t → s ≡ t
  run-declares-unique none u k s t d e = absurd d
  run-declares-unique (more p ps) u k s t (inl d) (inl e) = declares-unique p u.0 k s t d e
  run-declares-unique (more p ps) u k s t (inl d) (inr e) =
      absurd (u.2 k (declares-names p k s d) (run-declares-names ps k t e))
  run-declares-unique (more p ps) u k s t (inr d) (inl e) =
      absurd (u.2 k (declares-names p k t e) (run-declares-names ps k s d))
  run-declares-unique (more p ps) u k s t (inr d) (inr e) = run-declares-unique ps u.1 k s t d e

-- An entry that is one comes from the first or from the second; an entry 0 from neither.
first-cases : (m n s : ℕ) → first_entry m n ≡ suc s → (m ≡ suc s) ⊎ (n ≡ suc s)
first-cases zero n s e = inr e
first-cases (suc m) n s e = inl e

first-none : (m n : ℕ) → first_entry m n ≡ 0 → (m ≡ 0) × (n ≡ 0)
first-none zero n e = (refl, e)
first-none (suc m) n e = let z : ⊥ = omega arith in absurd z

entry-one : (t : Bool) (shape s : ℕ) → entry t shape ≡ suc s → (t ≡ true) × (s ≡ shape)
entry-one true shape s e = (refl, omega arith)
entry-one false shape s e = let z : ⊥ = omega arith in absurd z

entry-none : (t : Bool) (shape : ℕ) → entry t shape ≡ 0 → t ≡ false
entry-none true shape e = let z : ⊥ = omega arith in absurd z
entry-none false shape e = refl

mutual
  pub named_none : (p : Part) (k : ℕ) → named p k ≡ 0 → Names p k → ⊥
  named_none nothing k e n = n
  named_none (star p) k e n = named_none p k e n
  named_none (plus p) k e n = named_none p k e n
  named_none (optional p) k e n = named_none p k e n
  named_none (choice ps) k e n = run-named-none ps k e n
  named_none (all ps) k e n = run-named-none ps k e n
  named_none (link label shape low high) k e n = eqb-false k label (entry-none (eqb k label) shape e) n

  run-named-none : (ps : Parts) (k : ℕ) → run_named ps k ≡ 0 → RunNames ps k → ⊥
  run-named-none none k e n = n
  run-named-none (more p ps) k e n =
      let (f, g) = first-none (named p k) (run_named ps k) e in
      ⊎_elim (λ m. named_none p k f m) (λ m. run-named-none ps k g m) n

mutual
  pub named-declares : (p : Part) (k s : ℕ) → named p k ≡ suc s → Declares p k s
  named-declares nothing k s e = let z : ⊥ = omega arith in z
  named-declares (star p) k s e = named-declares p k s e
  named-declares (plus p) k s e = named-declares p k s e
  named-declares (optional p) k s e = named-declares p k s e
  named-declares (choice ps) k s e = run-named-declares ps k s e
  named-declares (all ps) k s e = run-named-declares ps k s e
  named-declares (link label shape low high) k s e =
      let (f, g) = entry-one (eqb k label) shape s e in (eqb-true k label f, g)

  run-named-declares : (ps : Parts) (k s : ℕ) → run_named ps k ≡ suc s → RunDeclares ps k s
  run-named-declares none k s e = let z : ⊥ = omega arith in z
  run-named-declares (more p ps) k s e =
      ⊎_elim (λ f. inl (named-declares p k s f)) (λ f. inr (run-named-declares ps k s f))
      (first-cases (named p k) (run_named ps k) s e)

-- A label that stands there has an entry.
names-entry : (p : Part) (k : ℕ) → Names p k → (s : ℕ) × (named p k ≡ suc s)
names-entry p k n = one (named p k) refl
  where
    one : (m : ℕ) → named p k ≡ m → (s : ℕ) × (named p k ≡ suc s)
    one zero e = absurd (named_none p k e n)
    one (suc s) e = (s, e)

pub names-declares : (p : Part) (k : ℕ) → Names p k → (s : ℕ) × Declares p k s
names-declares p k n = let (s, e) = names-entry p k n in (s, named-declares p k s e)

pub named-exact : (p : Part) → Single p → (k s : ℕ) → (named p k ≡ suc s) ↔ Declares p k s
named-exact p u k s = (
  named-declares p k s,
  λ d.
      let (t, e) = names-entry p k (declares-names p k s d) in
      e ∙ ap suc (declares-unique p u k t s (named-declares p k t e) d),
)

pub named-names : (p : Part) (k : ℕ) → names p k ≡ not (eqb (named p k) 0)
named-names p k = agree (named p k) refl
  where
    agree : (m : ℕ) → named p k ≡ m → names p k ≡ not (eqb m 0)
    agree zero e = absent (names p k) refl
      where
        absent : (t : Bool) → names p k ≡ t → names p k ≡ false
        absent true f = absurd (named_none p k e (names-true p k f))
        absent false f = f
    agree (suc s) e =
        let n : Names p k = declares-names p k s (named-declares p k s e) in
        true-names p k n ∙ sym (ap not (ne_eqb (suc s) 0 (λ z. let y : suc s ≡ 0 = z in omega arith)))

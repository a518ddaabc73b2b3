-- What a code starts, and which labels there are.
-- code-…       what a code starts, by its range; code-link: 256 and a label start the link of that label
-- code-case    what a code starts, case by case
-- label-kind   each label is that of a kind, one way or the other
-- Assumes nothing.
use mathlib.Core.Path.{◌≡◌, ◌∙◌}
use mathlib.Core.Bool.{cond}
use mathlib.Core.Logic.{⊎_elim}
use Prim.Native.Nat.{ℕ, ◌+◌, ◌-◌, ◌≤◌, ◌<◌}
use native.Mathlib.Omega.{arith}
use borrow.Author.Tests.{le-ltb, lt-ltb, eq-eqb, ne_eqb, eqb-true, eqb-false, ltb-true, ltb-false}
use lib.Dec.{ltb, eqb}
use Rattle.bags.specs.Label.{Way, outgoing, incoming, first_label, label_of}
use Rattle.bags.proofs.Naming.{OfKindBelow}
use Rattle.words.specs.Limits.{max_kinds, max_labels}
use Rattle.words.proofs.Bools.{cond-case, le-or-lt}
use Rattle.parts.specs.Reading.{Code, nothing, single, group, opening, unknown, link, wrapped, gathered, code_of}

-- Codes, by their ranges.
pub code-nothing : (n : ℕ) → n ≡ 0 → code_of n ≡ nothing
code-nothing n h = simp (eq-eqb _ _ h)

pub code-single : (n : ℕ) → 1 ≤ n → n ≤ 3 → code_of n ≡ single (wrapped n)
code-single n a b =
    let e : n ≡ 0 → ⊥ = omega arith in
    let f : n < 4 = omega arith in
    simp (ne_eqb _ _ e, lt-ltb _ _ f)

pub code-low : (n : ℕ) → 4 ≤ n → n ≤ 15 → code_of n ≡ unknown
code-low n a b =
    let e : n ≡ 0 → ⊥ = omega arith in
    let f : n < 16 = omega arith in
    simp (ne_eqb _ _ e, le-ltb _ _ a, lt-ltb _ _ f)

pub code-group : (n : ℕ) → 16 ≤ n → n ≤ 17 → code_of n ≡ group (gathered n)
code-group n a b =
    let e : n ≡ 0 → ⊥ = omega arith in
    let f : 4 ≤ n = omega arith in
    let g : n < 18 = omega arith in
    simp (ne_eqb _ _ e, le-ltb _ _ f, le-ltb _ _ a, lt-ltb _ _ g)

-- From 18 on.
code-over :
    (n : ℕ) → 18 ≤ n →
    code_of n
    ≡ cond (eqb n 18) opening
    (cond (ltb n 256) unknown
    (cond (ltb n 320) (link (first_label outgoing) (n - 256))
    (cond (ltb n 384) (link (first_label incoming) (n - 320)) unknown)))
code-over n a =
    let e : n ≡ 0 → ⊥ = omega arith in
    let f : 4 ≤ n = omega arith in
    let g : 16 ≤ n = omega arith in
    simp (ne_eqb _ _ e, le-ltb _ _ f, le-ltb _ _ g, le-ltb _ _ a)

pub code-open : (n : ℕ) → n ≡ 18 → code_of n ≡ opening
code-open n e = code-over n (omega arith) ∙ simp (eq-eqb _ _ e)

pub code-middle : (n : ℕ) → 19 ≤ n → n ≤ 255 → code_of n ≡ unknown
code-middle n a b =
    let e : n ≡ 18 → ⊥ = omega arith in
    let f : n < 256 = omega arith in
    code-over n (omega arith) ∙ simp (ne_eqb _ _ e, lt-ltb _ _ f)

-- From 256 on.
code-top :
    (n : ℕ) → 256 ≤ n →
    code_of n
    ≡ cond (ltb n 320) (link (first_label outgoing) (n - 256))
    (cond (ltb n 384) (link (first_label incoming) (n - 320)) unknown)
code-top n a =
    let e : n ≡ 18 → ⊥ = omega arith in
    code-over n (omega arith) ∙ simp (ne_eqb _ _ e, le-ltb _ _ a)

pub code-link :
    (way : Way) (kind n : ℕ) → kind < max_kinds → n ≡ 256 + label_of way kind → code_of n ≡ link (first_label way) kind
code-link outgoing kind n l e =
    let f : n < 320 = omega arith in
    let g : n - 256 ≡ kind = omega arith in
    code-top n (omega arith) ∙ simp (lt-ltb _ _ f, g)
code-link incoming kind n l e =
    let f : 320 ≤ n = omega arith in
    let g : n < 384 = omega arith in
    let h : n - 320 ≡ kind = omega arith in
    code-top n (omega arith) ∙ simp (le-ltb _ _ f, lt-ltb _ _ g, h)

pub code-high : (n : ℕ) → 384 ≤ n → code_of n ≡ unknown
code-high n a =
    let f : 320 ≤ n = omega arith in
    code-top n (omega arith) ∙ simp (le-ltb _ _ f, le-ltb _ _ a)

-- What holds of all that a code can start holds of what it starts: a link's code is 256 and its label.
pub code-case :
    (P : Code → Type 0) (n : ℕ) → (n ≡ 0 → P nothing) → (1 ≤ n → n < 4 → P (single (wrapped n))) →
    (16 ≤ n → n < 18 → P (group (gathered n))) →
    ((way : Way) (kind : ℕ) → n ≡ 256 + label_of way kind → P (link (first_label way) kind)) → P opening → P unknown →
    P (code_of n)
code-case P n none one many linked open-one other =
    cond-case P (eqb n 0) _ _ (λ e. none (eqb-true n 0 e))
    (λ e. cond-case P (ltb n 4) _ _ (λ f. one (omega (arith, eqb-false n 0 e)) (ltb-true n 4 f))
    (λ f. cond-case P (ltb n 16) _ _ (λ g. other)
    (λ g. cond-case P (ltb n 18) _ _ (λ h. many (ltb-false n 16 g) (ltb-true n 18 h))
    (λ h. cond-case P (eqb n 18) _ _ (λ o. open-one)
    (λ o. cond-case P (ltb n 256) _ _ (λ i. other)
    (λ i. cond-case P (ltb n 320) _ _ (λ j. linked outgoing (n - 256) (omega (arith, ltb-false n 256 i)))
    (λ j. cond-case P (ltb n 384) _ _ (λ k. linked incoming (n - 320) (omega (arith, ltb-false n 320 j)))
    (λ k. other))))))))

-- Each label is that of a kind, one way or the other.
pub label-kind : (label : ℕ) → label < max_labels → OfKindBelow max_kinds label
label-kind label l =
    ⊎_elim
    (λ h. (incoming, label - max_kinds, omega arith, omega arith))
    (λ h. (outgoing, label, h, omega arith))
    (le-or-lt max_kinds label)

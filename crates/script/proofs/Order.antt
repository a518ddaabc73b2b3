-- The order of a script's links.
-- greater-by-from, greater-by-kind, greater-by-to   which word decides that a link is above another
-- above-first, above_other                          the first link, and any other
-- starts-rise                                       the cards that ascending links start at do not fall
-- kinds-rise                                        nor do the kinds of those that start at one card
-- Assumes nothing.
use Prim.Native.Nat.{ℕ, zero, suc, ◌+◌, ◌-◌, ◌≤◌, ◌<◌}
use mathlib.Core.Path.{◌≡◌, refl, sym, ◌∙◌}
use mathlib.Core.Logic.{⊎_elim}
use mathlib.Core.Bool.{Bool, true, false, cond}
use mathlib.Core.List.{List}
use native.Mathlib.Omega.{arith}
use native.Mathlib.Nat.{le_refl, le_trans, add-zero, add-suc}
use lib.Dec.{ltb}
use borrow.Author.Tests.{le-ltb, eq-eqb, ne_eqb}
use Rattle.script.specs.Link.{from_at, kind_at, to_at, greater, above}
use Rattle.script.specs.Steps.{Ascending}
use Rattle.words.proofs.Bools.{le-or-lt, false-true}

pick-bool : (b : Bool) → cond b true false ≡ b
pick-bool true = refl
pick-bool false = refl

pub greater-by-from : (script : List ℕ) (i j : ℕ) → (from_at script i ≡ from_at script j → ⊥)
    → ltb (from_at script j) (from_at script i) ≡ greater script i j
unfolding greater
greater-by-from script i j ne =
    rw (ne_eqb (from_at script j) (from_at script i) (λ e. ne (sym e)))
    (sym (pick-bool (ltb (from_at script j) (from_at script i))))

pub greater-by-kind : (script : List ℕ) (i j : ℕ) → from_at script i ≡ from_at script j
    → (kind_at script i ≡ kind_at script j → ⊥)
    → ltb (kind_at script j) (kind_at script i) ≡ greater script i j
unfolding greater
greater-by-kind script i j e ne =
    let no_less = le-ltb (from_at script j) (from_at script i) (omega arith) in
    let same = eq-eqb (from_at script j) (from_at script i) (sym e) in
    rw (no_less, same, ne_eqb (kind_at script j) (kind_at script i) (λ q. ne (sym q)))
    (sym (pick-bool (ltb (kind_at script j) (kind_at script i))))

pub greater-by-to : (script : List ℕ) (i j : ℕ) → from_at script i ≡ from_at script j
    → kind_at script i ≡ kind_at script j
    → ltb (to_at script j) (to_at script i) ≡ greater script i j
unfolding greater
greater-by-to script i j e f =
    let no_less = le-ltb (from_at script j) (from_at script i) (omega arith) in
    let same = eq-eqb (from_at script j) (from_at script i) (sym e) in
    let no-less-kind = le-ltb (kind_at script j) (kind_at script i) (omega arith) in
    rw (no_less, same, no-less-kind, eq-eqb (kind_at script j) (kind_at script i) (sym f))
    refl

pub above-first : (script : List ℕ) (i : ℕ) → i ≡ 0 → true ≡ above script i
unfolding above
above-first script zero e = refl
above-first script (suc i) e = absurd (omega arith)

pub above_other : (script : List ℕ) (i : ℕ) → (i ≡ 0 → ⊥) → greater script i (i - 1) ≡ above script i
unfolding above
above_other script zero ne = absurd (ne refl)
above_other script (suc i) ne = let e : suc i - 1 ≡ i = omega arith in rw e refl

-- A link that is above another starts at no lower card.
from-rises : (script : List ℕ) (i j : ℕ) → greater script i j ≡ true → from_at script j ≤ from_at script i
unfolding greater
from-rises script i j e =
    ⊎_elim (λ h. h)
    (λ l.
    let no_less = le-ltb (from_at script j) (from_at script i) (omega arith) in
    let other = ne_eqb (from_at script j) (from_at script i) (λ p. omega arith) in
    false-true (rw (no_less, other) at e))
    (le-or-lt (from_at script j) (from_at script i))

above-rises : (script : List ℕ) (i : ℕ) → above script (suc i) ≡ true → from_at script i ≤ from_at script (suc i)
unfolding above
above-rises script i e = from-rises script (suc i) i e

-- The first m links start at cards that do not fall.
abbrev pub StartsRise : List ℕ → ℕ → Type 0
StartsRise script m = (i j : ℕ) → i ≤ j → j < m → from_at script i ≤ from_at script j

rise : (script : List ℕ) (m : ℕ) → Ascending script m → (i d : ℕ) → i + d < m
    → from_at script i ≤ from_at script (i + d)
rise script m a i zero h = rw add-zero (le_refl _)
rise script m a i (suc d) h =
    rw add-suc
    (le_trans (rise script m a i d (omega arith))
    (above-rises script (i + d) (a.rising (suc (i + d)) (omega arith))))

pub starts-rise : (script : List ℕ) (m : ℕ) → Ascending script m → StartsRise script m
starts-rise script m a i j l h =
    let e : i + (j - i) ≡ j = omega arith in
    rw e at (rise script m a i (j - i) (omega arith))

-- A link that is above another, both of one card, has no lower kind.
kind-rises : (script : List ℕ) (i j : ℕ) → greater script i j ≡ true → from_at script i ≡ from_at script j
    → kind_at script j ≤ kind_at script i
kind-rises script i j e same =
    ⊎_elim (λ h. h)
    (λ l.
    let by_kind = greater-by-kind script i j same (λ p. omega arith) in
    let no_less = le-ltb (kind_at script j) (kind_at script i) (omega arith) in
    false-true (sym no_less ∙ by_kind ∙ e))
    (le-or-lt (kind_at script j) (kind_at script i))

above-kind : (script : List ℕ) (i : ℕ) → above script (suc i) ≡ true → from_at script (suc i) ≡ from_at script i
    → kind_at script i ≤ kind_at script (suc i)
unfolding above
above-kind script i e same = kind-rises script (suc i) i e same

-- The kinds of the links from link i on that start at its card do not fall.
kinds-up : (script : List ℕ) (m : ℕ) → Ascending script m → (i d : ℕ) → i + d < m
    → from_at script i ≡ from_at script (i + d) → kind_at script i ≤ kind_at script (i + d)
kinds-up script m a i zero h same = rw add-zero (le_refl _)
kinds-up script m a i (suc d) h same =
    let e : i + suc d ≡ suc (i + d) = omega arith in
    let last : from_at script i ≡ from_at script (suc (i + d)) = rw e at same in
    let low = starts-rise script m a i (i + d) (omega arith) (omega arith) in
    let high = starts-rise script m a (i + d) (suc (i + d)) (omega arith) (omega arith) in
    rw e
    (le_trans (kinds-up script m a i d (omega arith) (omega arith))
    (above-kind script (i + d) (a.rising (suc (i + d)) (omega arith)) (omega arith)))

pub kinds-rise : (script : List ℕ) (m : ℕ) → Ascending script m → (i j : ℕ) → i ≤ j → j < m
    → from_at script i ≡ from_at script j → kind_at script i ≤ kind_at script j
kinds-rise script m a i j l h same =
    let e : i + (j - i) ≡ j = omega arith in
    rw e at (kinds-up script m a i (j - i) (omega arith) (rw e same))

-- The cards that links touch.
-- Touches        one of the first m links starts at a card or leads to it
-- linked-none, linked-from, linked_to, linked-other   the test of no links, and after one link more
-- linked-exact   the test is true exactly if one does
-- Assumes nothing.
use Prim.Native.Nat.{ℕ, zero, suc, ◌<◌}
use mathlib.Core.Path.{◌≡◌, refl, sym, ap, ◌∙◌}
use mathlib.Core.Logic.{◌⊎◌, inl, inr, ⊎_elim, ◌↔◌}
use mathlib.Core.Bool.{Bool, true, false, ◌||◌}
use mathlib.Core.List.{List}
use native.Mathlib.Omega.{arith}
use native.Mathlib.Nat.{not-suc-le-zero}
use lib.Dec.{eqb}
use borrow.Author.Tests.{eq-eqb, ne_eqb}
use Rattle.words.proofs.Bools.{eq-or-ne, or_left, or_right, last-or-below, false-true}
use Rattle.script.specs.Link.{from_at, to_at, linked}

-- One of the first m links starts at a card or leads to it.
abbrev Touches : List ℕ → ℕ → ℕ → Type 0
Touches script card m = (i : ℕ) × (i < m) × ((from_at script i ≡ card) ⊎ (to_at script i ≡ card))

or-none : (b : Bool) → (b || false || false) ≡ b
or-none true = refl
or-none false = refl

module _ (script : List ℕ) (card : ℕ) where
  -- one link more: it leads to the card, starts at it, or does neither
  pub linked_to : (m : ℕ) → to_at script m ≡ card → linked script card (suc m) ≡ true
  unfolding linked
  linked_to m e =
      or_right (linked script card m || eqb (from_at script m) card) (eqb (to_at script m) card)
      (eq-eqb (to_at script m) card e)

  pub linked-from : (m : ℕ) → from_at script m ≡ card → linked script card (suc m) ≡ true
  unfolding linked
  linked-from m e =
      or_left (linked script card m || eqb (from_at script m) card) (eqb (to_at script m) card)
      (or_right (linked script card m) (eqb (from_at script m) card) (eq-eqb (from_at script m) card e))

  pub linked-other : (m : ℕ) → (from_at script m ≡ card → ⊥) → (to_at script m ≡ card → ⊥)
      → linked script card (suc m) ≡ linked script card m
  unfolding linked
  linked-other m no-from no-to =
      rw (ne_eqb (from_at script m) card no-from, ne_eqb (to_at script m) card no-to) (or-none (linked script card m))

  pub linked-none : linked script card 0 ≡ false
  unfolding linked
  linked-none = refl

  touches-more : (m : ℕ) → Touches script card m → Touches script card (suc m)
  touches-more m (i, l, ends) = (i, omega arith, ends)

  linked-touches : (m : ℕ) → linked script card m ≡ true → Touches script card m
  linked-touches zero e = false-true (sym linked-none ∙ e)
  linked-touches (suc m) e =
      ⊎_elim (λ f. (m, omega arith, inl f))
      (λ no-from. ⊎_elim (λ t. (m, omega arith, inr t))
      (λ no-to. touches-more m (linked-touches m (sym (linked-other m no-from no-to) ∙ e)))
      (eq-or-ne (to_at script m) card))
      (eq-or-ne (from_at script m) card)

  linked-more : (m : ℕ) → linked script card m ≡ true → linked script card (suc m) ≡ true
  unfolding linked
  linked-more m e =
      or_left (linked script card m || eqb (from_at script m) card) (eqb (to_at script m) card)
      (or_left (linked script card m) (eqb (from_at script m) card) e)

  touches-linked : (m : ℕ) → Touches script card m → linked script card m ≡ true
  touches-linked zero (i, l, ends) = absurd (not-suc-le-zero l)
  touches-linked (suc m) (i, l, ends) =
      ⊎_elim
      (λ q. ⊎_elim (λ f. linked-from m (sym (ap (from_at script) q) ∙ f))
      (λ t. linked_to m (sym (ap (to_at script) q) ∙ t)) ends)
      (λ lt. linked-more m (touches-linked m (i, lt, ends)))
      (last-or-below l)

  pub linked-exact : (m : ℕ) → (linked script card m ≡ true) ↔ Touches script card m
  linked-exact m = (linked-touches m, touches-linked m)

-- The pair that an entry names for a card.
--   none_named              0 names none
--   one-named, only-named   another entry names one pair, and no other
--   had-nothing, had-named  whether a set has what is named
-- Assumes nothing.
use mathlib.Core.Path.{◌≡◌, refl, sym, ap, ◌∙◌, subst}
use mathlib.Core.Logic.{◌↔◌}
use mathlib.Core.Bool.{Bool, true}
use Prim.Native.Nat.{ℕ, ◌+◌, ◌-◌}
use native.Mathlib.Omega.{arith}
use Rattle.walks.specs.Walks.{HasAll}
use Rattle.walks.specs.Entries.{EntryGood}

-- The entry as a number.
module _ {entry base number : ℕ} (is : number ≡ entry) where
  pub none_named : number ≡ 0 → (q : ℕ) → EntryGood entry base q → ⊥
  none_named z q g = omega (arith, g.names-it)

  module _ (some : number ≡ 0 → ⊥) where
    pub one-named : EntryGood entry base (base + (number - 1))
    one-named = record { shape = number - 1; names-it = omega (arith, some); at = refl }

    pub only-named : (q : ℕ) → EntryGood entry base q → q ≡ base + (number - 1)
    only-named q g = g.at ∙ ap (λ (x : ℕ). base + x) (omega (arith, g.names-it))

  module _ (X : ℕ → Bool) where
    pub had-nothing : number ≡ 0 → HasAll X (EntryGood entry base)
    had-nothing z q g = absurd (none_named z q g)

    pub had-named : (number ≡ 0 → ⊥) → (X (base + (number - 1)) ≡ true) ↔ HasAll X (EntryGood entry base)
    had-named some = (
      λ e q g. subst (λ (x : ℕ). X x ≡ true) (sym (only-named some q g)) e,
      λ h. h (base + (number - 1)) (one-named some),
    )

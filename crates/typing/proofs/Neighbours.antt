-- A card's neighbours, one by one.
--   targets_of, targets-at   all of them have the declared shapes exactly if each has
--   label-counted            the label of a neighbour counts
-- Assumes nothing.
use Prim.Native.Nat.{ℕ, ◌<◌}
use mathlib.Core.Path.{◌≡◌, refl, ap, subst}
use mathlib.Core.Bool.{Bool}
use mathlib.Core.List.{List, [], ◌∷◌, Memᴰ}
use native.Mathlib.Omega.{arith}
use lib.Dec.{eqb}
use borrow.Author.Tests.{eq-eqb}
use Rattle.bags.specs.Part.{Part, Declares}
use Rattle.bags.specs.Bag.{when}
use Rattle.bags.specs.Choice.{Neighbour, to}
use Rattle.bags.specs.Proposition.{label_count, TargetsHave}

module _ (has : ℕ → ℕ → Type 0) (p : Part) where
  -- the far card has the shape that the part declares for the label
  abbrev TargetHas : ℕ → ℕ → Type 0
  TargetHas label far = (u : ℕ) × Declares p label u × has far u

  pub targets_of : (ns : List Neighbour)
      → ((label far : ℕ) → Memᴰ (to label far) ns → TargetHas label far) → TargetsHave has ns p
  targets_of [] h = tt
  targets_of (to label far ∷ ns) h =
      (h label far (Memᴰ.head refl), targets_of ns (λ l f m. h l f (Memᴰ.tail m)))

  pub targets-at : (ns : List Neighbour) → TargetsHave has ns p
      → (label far : ℕ) → Memᴰ (to label far) ns → TargetHas label far
  targets-at [] h label far m = elim m [ ]
  targets-at (to l f ∷ ns) h label far (Memᴰ.head e) =
      let (u, d, x) = h.0 in
      let same-label : l ≡ label = cc in
      let same-far : f ≡ far = cc in
      (u, subst (λ (k : ℕ). Declares p k u) same-label d, subst (λ (m : ℕ). has m u) same-far x)
  targets-at (to l f ∷ ns) h label far (Memᴰ.tail m) = targets-at ns h.1 label far m

pub label-counted : (ns : List Neighbour) (label far : ℕ) → Memᴰ (to label far) ns → 0 < label_count ns label
label-counted [] label far m = elim m [ ]
label-counted (to l f ∷ ns) label far (Memᴰ.head e) =
    let same : label ≡ l = cc in
    let one : when (eqb label l) 1 ≡ 1 = ap (λ (b : Bool). when b 1) (eq-eqb label l same) in
    omega arith
label-counted (to l f ∷ ns) label far (Memᴰ.tail m) = omega (arith, label-counted ns label far m)

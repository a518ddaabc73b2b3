-- There is one text for a sheet and its bookings.
--   outcome-said-unique    what is said of an outcome tells it
--   sheet-unique           one text for a sheet, read or refused
-- Assumes nothing.
use mathlib.Core.Path.{◌≡◌, refl, sym, ap₂, ◌∙◌}
use mathlib.Core.List.{List, [], ◌∷◌, ◌++◌}
use Prim.Native.Nat.{ℕ}
use Rattle.words.specs.Said.{Said, values}
use Rattle.words.specs.Reading.{Reading, accepted, turned_down}
use Rattle.sheet.specs.Sheet.{Sheet, read_sheet}
use Rattle.bookings.specs.Bookings.{Booked}
use Rattle.typing.specs.Demand3.{Outcome, pairs, not_met}
use Rattle.typing.specs.Calls.{listed_reading, outcome_said, SmallestFound}
use Rattle.typing.proofs.Smallest.{BookedIn}
use Rattle.typing.proofs.Booked.{list-asked}
use Rattle.typing.proofs.Unique.{Represented, both-found-unique}
use Rattle.typing.proofs.Existence.{represented}
use Rattle.sheet_text.specs.Printed.{largest_text, smallest_text, SheetPrinted, PrintsSheet}

pub outcome-said-unique : (o q : Outcome) → outcome_said o ≡ outcome_said q → o ≡ q
outcome-said-unique (pairs m) (pairs k) e = cc
outcome-said-unique (pairs m) (not_met n t) e = cc
outcome-said-unique (not_met n t) (pairs m) e = cc
outcome-said-unique (not_met n t) (not_met m u) e = cc

-- Equal numbers and equal grids are printed alike.
largest-same : {a b c x y z : ℕ} {g h : List ℕ} (shapes cards : ℕ) → values (a ∷ b ∷ c ∷ []) ≡ values (x ∷ y ∷ z ∷ [])
    → g ≡ h → largest_text a b c g shapes cards ≡ largest_text x y z h shapes cards
largest-same {a} {b} {c} {x} {y} {z} shapes cards e f =
    let i : a ≡ x = cc in
    let j : b ≡ y = cc in
    let k : c ≡ z = cc in
    rw (i, j, k, f) refl

-- The text of a desk's smallest is told by what is said of it and by its grid.
smallest-same : (s : Sheet) {P Q : ℕ → ℕ → Type 0} {g h : List ℕ} {a b : Said} (x : SmallestFound s P g a)
    (y : SmallestFound s Q h b) → a ≡ b → g ≡ h
    → smallest_text s g x.outcome ≡ smallest_text s h y.outcome
smallest-same s x y e f =
    ap₂ (smallest_text s) f (outcome-said-unique x.outcome y.outcome (sym x.says ∙ e ∙ y.says))

sheet-printed-unique : {s : Sheet} {bookings a b : List ℕ} → Represented (accepted s)
    → ((desk : ℕ) → BookedIn s (Booked bookings desk))
    → SheetPrinted s bookings a → SheetPrinted s bookings b → a ≡ b
sheet-printed-unique {s} sheets inside x y =
    let (l, r, radio, large) = both-found-unique (sheets s refl).1 (inside 0) x.found.radio y.found.radio in
    let (_, t, television, _) =
    both-found-unique (sheets s refl).1 (inside 1) x.found.television y.found.television in
    x.prints
    ∙ ap₂ ◌++◌
    (largest-same s.shapes s.cards
    (sym x.found.radio.largest.says ∙ l ∙ y.found.radio.largest.says) large)
    (ap₂ ◌++◌ (smallest-same s x.found.radio.smallest y.found.radio.smallest r radio)
    (smallest-same s x.found.television.smallest y.found.television.smallest t television))
    ∙ sym y.prints

module _ (template script bookings : List ℕ) {a b : List ℕ} where
  pub sheet-unique : (r : Reading Sheet) → listed_reading template script bookings ≡ r
      → PrintsSheet r bookings a → PrintsSheet r bookings b → a ≡ b
  sheet-unique (turned_down number place) e x y = x ∙ sym y
  sheet-unique (accepted s) e x y =
      let (asked, inside) = list-asked bookings (read_sheet template script) s e in
      sheet-printed-unique (λ q same. represented template script q (asked ∙ same)) inside x y

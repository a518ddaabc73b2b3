-- Where nothing is booked the smallest typing has no pairs.
--   closure-empty   nothing follows from no bookings
--   none-booked     0 is said, and the grid is all 0
-- Assumes nothing.
use Prim.Native.Nat.{ℕ, ◌/◌, ◌%◌, ◌<◌}
use mathlib.Core.Path.{◌≡◌, sym, ap, ◌∙◌}
use mathlib.Core.Logic.{⊎_elim}
use mathlib.Core.Bool.{false}
use mathlib.Core.List.{List, [], ◌∷◌}
use native.Mathlib.Omega.{arith}
use lib.ListN.{replicate, length-replicate, get_or-replicate}
use lib.Seq.{ext_get_or}
use Rattle.words.specs.Said.{Said, values}
use Rattle.words.proofs.Bools.{is_false, false-true}
use Rattle.words.proofs.Places.{card-in, shape-in, place_of}
use Rattle.board.specs.Grid.{on}
use Rattle.board.proofs.Grids.{on-yes}
use Rattle.board.proofs.Tally.{tally-none}
use Rattle.sheet.specs.Sheet.{Sheet, place, size}
use Rattle.typing.specs.Smallest.{Closure, booked, follow, Accepted}
use Rattle.typing.specs.Demand3.{Outcome, pairs, not_met}
use Rattle.typing.specs.Calls.{Leaves, outcome_said, SmallestFound}

module _ (s : Sheet) {Wanted : ℕ → ℕ → Type 0} (one-shape : 0 < s.shapes) (never : (n t : ℕ) → Wanted n t → ⊥) where
  pub closure-empty : {n t : ℕ} → Closure s Wanted n t → ⊥
  closure-empty (booked {n} {t} b) = never n t b
  closure-empty (follow c way i l near names) = closure-empty c

  module _ {grid : List ℕ} {m : ℕ} (a : Accepted s Wanted grid m) where
    all-off : (p : ℕ) → p < size s → on grid p ≡ false
    all-off p l =
        let here : place s (p / s.shapes) (p % s.shapes) ≡ p = place_of s.shapes one-shape p in
        is_false (λ e. closure-empty (a.closure.only (p / s.shapes) (p % s.shapes)
        (card-in s.shapes one-shape s.cards p l) (shape-in s.shapes one-shape p) (ap (on grid) here ∙ e)))

    no_pairs : m ≡ 0
    no_pairs = a.counted ∙ tally-none (on grid) (size s) all-off

    all-zero : grid ≡ replicate (size s) 0
    all-zero =
        ext_get_or 0 grid (replicate (size s) 0) (a.typing.full ∙ sym (length-replicate (size s) 0)) (λ p l.
        let inside : p < size s = omega (arith, a.typing.full) in
        ⊎_elim
        (λ e. e ∙ sym (get_or-replicate (size s) p 0 0 inside))
        (λ e. false-true (sym (all-off p inside) ∙ on-yes grid p e))
        (a.typing.bytes p inside))

  none-by : {grid : List ℕ} (o : Outcome) → Leaves s Wanted grid o
      → (outcome_said o ≡ values (0 ∷ [])) × (grid ≡ replicate (size s) 0)
  none-by (pairs m) a = (ap (λ (k : ℕ). values (k ∷ [])) (no_pairs a), all-zero a)
  none-by (not_met n t) d = absurd (closure-empty d.inside)

  pub none-booked : {grid : List ℕ} {said : Said} → SmallestFound s Wanted grid said
      → (said ≡ values (0 ∷ [])) × (grid ≡ replicate (size s) 0)
  none-booked x = let (says, zeros) = none-by x.outcome x.leaves in (x.says ∙ says, zeros)

-- For every sheet that is read there is a board that stands for it, so the contracts leave no choice on any input.
--   list_of             a list by its entries
--   names_of, fits_of    a sheet's table of names, and its grid of fits
--   represented        a board stands for each sheet of a template and a script
--   largest-no-choice, smallest-no-choice, both-no-choice   two answers to one call are the same, and so are the grids
-- Assumes nothing.
use Prim.Native.Nat.{ℕ, zero, suc, ◌+◌, ◌*◌, ◌/◌, ◌%◌, ◌≤◌, ◌<◌}
use mathlib.Core.Path.{◌≡◌, refl, sym, ap, ap₂, ◌∙◌}
use mathlib.Core.Logic.{⊎_elim}
use mathlib.Core.Bool.{Bool, true, false}
use mathlib.Core.List.{List, [], ◌∷◌}
use native.Mathlib.Omega.{arith}
use native.Mathlib.Nat.{le_of_suc-le-suc, not-suc-le-zero}
use lib.ListN.{length, get_or}
use Rattle.words.specs.Limits.{max_labels}
use Rattle.bags.specs.Named.{named}
use Rattle.bags.specs.Interval.{fits}
use Rattle.template.specs.Machine.{Tabled}
use Rattle.board.specs.Grid.{on, bit}
use Rattle.board.specs.Board.{Board}
use Rattle.words.proofs.Bools.{true-or-false}
use Rattle.board.proofs.Tally.{bit-true, bit-false}
use Rattle.board.proofs.Grids.{on-yes, on-no}
use Rattle.typing.specs.Needs.{board_of}
use Rattle.words.proofs.Places.{place_in, card-of, shape_of}
use Rattle.std.specs.Prelude.{Result}
use Rattle.words.specs.declared.Card.{Card}
use Rattle.words.specs.declared.Shape.{Shape}
use Rattle.words.specs.declared.refusal.Refusal.{Refusal}
use Rattle.typing.specs.declared.Struck.{Struck}
use Rattle.typing.specs.declared.Both.{Both}
use Rattle.sheet.specs.Sheet.{Sheet, part_of, opens_of, place, size, read_sheet}
use Rattle.words.specs.Said.{Said}
use Rattle.typing.specs.Answer.{BothSaid, largest_said, smallest_said, both_said}
use Rattle.typing.specs.Calls.{Grids, LargestSays, SmallestSays, BothSays}
use Rattle.typing.proofs.Represents.{Represents}
use Rattle.typing.proofs.Unique.{Represented, largest-says-unique, smallest-says-unique, both-says-unique}
use Rattle.typing.proofs.Unique.{largest-said-unique, smallest-said-unique, both-said-unique}
use Rattle.sheet.proofs.Accepted.{SheetAccepted, sheet-read}
use Rattle.typing.proofs.Instance.{FitsGrid, counts_of, fits-grid, represents}

-- f 0, f 1, .., f (n - 1).
list_of : (ℕ → ℕ) → ℕ → List ℕ
list_of f zero = []
list_of f (suc n) = f 0 ∷ list_of (λ i. f (suc i)) n

list_length : (f : ℕ → ℕ) (n : ℕ) → length (list_of f n) ≡ n
unfolding list_of
list_length f zero = refl
list_length f (suc n) = ap suc (list_length (λ i. f (suc i)) n)

list_at : (f : ℕ → ℕ) (n i : ℕ) → i < n → get_or (list_of f n) i 0 ≡ f i
unfolding list_of
list_at f zero i l = absurd (not-suc-le-zero l)
list_at f (suc n) zero l = refl
list_at f (suc n) (suc i) l = list_at (λ j. f (suc j)) n i (le_of_suc-le-suc l)

on_bit : (grid : List ℕ) (p : ℕ) (b : Bool) → get_or grid p 0 ≡ bit b → on grid p ≡ b
on_bit grid p b e = ⊎_elim
    (λ (yes-b : b ≡ true). on-yes grid p (e ∙ bit-true b yes-b) ∙ sym yes-b)
    (λ (no-b : b ≡ false). on-no grid p (λ o. absurd (omega (arith, e, bit-false b no-b, o))) ∙ sym no-b)
    (true-or-false b)

-- A sheet's table of names.
names_of : Sheet → List ℕ
names_of s = list_of (λ p. named (part_of s (p / max_labels)) (p % max_labels)) (s.shapes * max_labels)

-- Whether card n fits shape t by counts, as a byte.
abbrev fit_bit : Sheet → ℕ → ℕ → ℕ → ℕ
fit_bit s kinds n t = bit (fits (opens_of s t) kinds (part_of s t) (counts_of s n))

-- The grid of which pairs fit by counts.
fits_of : Sheet → ℕ → List ℕ
fits_of s kinds = list_of (λ p. fit_bit s kinds (p / s.shapes) (p % s.shapes)) (size s)

module _ {words : List ℕ} {kinds : ℕ} {s : Sheet} (read : SheetAccepted words kinds s) where
  names-tabled : Tabled s.parts (names_of s)
  unfolding names_of
  names-tabled t k lt lk =
      let some : 0 < max_labels = omega arith in
      let here : t < s.shapes = omega (arith, read.shapes.trees-length) in
      list_at (λ p. named (part_of s (p / max_labels)) (p % max_labels)) (s.shapes * max_labels) (t * max_labels + k)
      (place_in s.shapes max_labels t k here lk)
      ∙ ap (λ (x : ℕ). named (part_of s x) ((t * max_labels + k) % max_labels)) (card-of max_labels some t k lk)
      ∙ ap (λ (x : ℕ). named (part_of s t) x) (shape_of max_labels some t k lk)

  names-room : s.shapes * max_labels ≤ length (names_of s)
  unfolding names_of
  names-room =
      omega (arith, list_length (λ p. named (part_of s (p / max_labels)) (p % max_labels)) (s.shapes * max_labels))

  fits-right : FitsGrid s (fits_of s kinds)
  unfolding fits_of
  fits-right = fits-grid read (fits_of s kinds) (λ n t ln lt.
      on_bit (fits_of s kinds) (place s n t) (fits (opens_of s t) kinds (part_of s t) (counts_of s n))
      (list_at (λ p. fit_bit s kinds (p / s.shapes) (p % s.shapes)) (size s) (place s n t)
      (place_in s.cards s.shapes n t ln lt)
      ∙ ap₂ (fit_bit s kinds)
      (card-of s.shapes read.shapes.shapes-low n t lt)
      (shape_of s.shapes read.shapes.shapes-low n t lt)))

  some-board : (B : Board) × Represents s B
  some-board = (
    board_of s.script (names_of s) s.shapes (fits_of s kinds),
    represents read (names_of s) names-tabled names-room (fits_of s kinds) fits-right,
  )

pub represented : (template script : List ℕ) → Represented (read_sheet template script)
represented template script s e = let (kinds, read, same) = sheet-read template script s e in some-board read

-- ---- the contracts leave no choice
module _ (template script : List ℕ) where
  -- of what is said
  pub largest-one-answer : (before g h : List ℕ) (a b : Said)
      → LargestSays template script before g a → LargestSays template script before h b → (a ≡ b) × (g ≡ h)
  largest-one-answer = largest-says-unique template script (represented template script)

  pub smallest-one-answer : (bookings : List ℕ) (desk : ℕ) (before g h : List ℕ) (a b : Said)
      → SmallestSays template script bookings desk before g a → SmallestSays template script bookings desk before h b
      → (a ≡ b) × (g ≡ h)
  smallest-one-answer = smallest-says-unique template script (represented template script)

  pub both-one-answer : (bookings : List ℕ) (desk : ℕ) (before g h : Grids) (a b : BothSaid)
      → BothSays template script bookings desk before g a → BothSays template script bookings desk before h b
      → (a ≡ b) × (g ≡ h)
  both-one-answer = both-says-unique template script (represented template script)

  -- and of the answers
  pub largest-no-choice : (before g h : List ℕ) (a b : Result Struck Refusal)
      → LargestSays template script before g (largest_said a) → LargestSays template script before h (largest_said b)
      → (a ≡ b) × (g ≡ h)
  largest-no-choice before g h a b x y =
      let (e, f) = largest-one-answer before g h (largest_said a) (largest_said b) x y in
      (largest-said-unique a b e, f)

  pub smallest-no-choice : (bookings : List ℕ) (desk : ℕ) (before g h : List ℕ)
      (a b : Result (Result ℕ (Card × Shape)) Refusal)
      → SmallestSays template script bookings desk before g (smallest_said a)
      → SmallestSays template script bookings desk before h (smallest_said b)
      → (a ≡ b) × (g ≡ h)
  smallest-no-choice bookings desk before g h a b x y =
      let (e, f) = smallest-one-answer bookings desk before g h (smallest_said a) (smallest_said b) x y in
      (smallest-said-unique a b e, f)

  pub both-no-choice : (bookings : List ℕ) (desk : ℕ) (before g h : Grids) (a b : Result Both Refusal)
      → BothSays template script bookings desk before g (both_said a)
      → BothSays template script bookings desk before h (both_said b)
      → (a ≡ b) × (g ≡ h)
  both-no-choice bookings desk before g h a b x y =
      let (e, f) = both-one-answer bookings desk before g h (both_said a) (both_said b) x y in
      let large = ap (λ (x : BothSaid). x.largest) e in
      let small = ap (λ (x : BothSaid). x.smallest) e in
      (both-said-unique a b large small, f)

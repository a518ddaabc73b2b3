-- The next place after a part that is read: past its code, and not past the end.
-- next-same      what the code shows tells the next place and the row
-- reads-within   the next place after a part, by what was found; reads-above: by what the code shows
-- Assumes nothing.
use mathlib.Core.Path.{◌≡◌, ap}
use mathlib.Core.List.{List}
use Prim.Native.Nat.{ℕ, ◌+◌, ◌≤◌}
use native.Mathlib.Omega.{arith}
use lib.ListN.{length}
use Rattle.bags.specs.Part.{Part}
use Rattle.words.specs.Reading.{Reading, accepted, turned_down}
use Rattle.words.proofs.Readings.{accepted-same, accepted-turned}
use Rattle.parts.specs.declared.Sizes.{Sizes}
use Rattle.parts.specs.Reading.{Found, found, read_part}
use Rattle.parts.specs.Machine.{Step, step, shown, outcome}
use Rattle.parts.specs.Writer.{write_part}
use Rattle.parts.proofs.RoundTripRead.{Holds, PartBack, part-back}

-- What the code shows tells the next place and the row.
pub next-same : {m n : ℕ} {row row' : List ℕ} → shown (accepted m) row ≡ accepted (step n row') → (m ≡ n) × (row ≡ row')
unfolding shown
next-same e = (ap (λ (s : Step). s.next) (accepted-same e), ap (λ (s : Step). s.row) (accepted-same e))

-- A part has a word.
some_word : (p : Part) → 1 ≤ length (write_part p)
some_word Part.nothing = omega arith
some_word (Part.star p) = omega arith
some_word (Part.plus p) = omega arith
some_word (Part.optional p) = omega arith
some_word (Part.choice ps) = omega arith
some_word (Part.all ps) = omega arith
some_word (Part.link label shape low high) = omega arith

-- The next place of a part whose words stand there.
back-within :
    (words : List ℕ) (end at : ℕ) (p : Part) (m : ℕ) (row : List ℕ) → PartBack words end at (found p m row) →
    (at + 1 ≤ m) × (m ≤ end)
back-within words end at p m row b =
    let (stands, next, inside, limits) = b in
    omega (arith, some_word p)

shown-within :
    (words : List ℕ) (end at m : ℕ) (row : List ℕ) (r : Reading (Found Part)) → Holds (PartBack words end at) r →
    shown (accepted m) row ≡ outcome r → (at + 1 ≤ m) × (m ≤ end)
unfolding shown
shown-within words end at m row (accepted (found p next row')) b e =
    let same = next-same e in
    omega (arith, back-within words end at p next row' b)
shown-within words end at m row (turned_down number place) b e = accepted-turned e

module _ (left : ℕ) (words : List ℕ) (end : ℕ) (sizes : Sizes) (at : ℕ) (row : List ℕ) where
  pub reads-above :
      (m : ℕ) (row' : List ℕ) → shown (accepted m) row' ≡ outcome (read_part left words end sizes at row) →
      (at + 1 ≤ m) × (m ≤ end)
  reads-above m row' e =
      shown-within words end at m row' (read_part left words end sizes at row) (part-back words end sizes left at
      row) e

  pub reads-within :
      (p : Part) (m : ℕ) (names : List ℕ) →
      read_part left words end sizes at row ≡ accepted (found p m names) → (at + 1 ≤ m) × (m ≤ end)
  reads-within p m names e = back-within words end at p m names (rw e at (part-back words end sizes left at row))

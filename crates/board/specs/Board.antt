-- A board of places and the two sets that the searches find on it, as the proofs take them; no part of a promise.
-- A place stands for a pair of a card and a shape. A set of places is a test.
--   Board     places below a size, a test of each, and which places a place needs
--   Inside    what a place of the board needs is on the board
--   Lawful    a place is met under a set if it is ok and the set has all that it needs
--   Under     one set has no place that another has not
--   SoundSet  a set each of whose places is met under it
--   Struck    a place falls in one of the first rounds
--   Finished  the answer of the search for the largest: a set, its strikes and its rounds
--   Closed    a place of the closure of the bookings
--   Flooded   the answer of the search for the smallest: the closure and its number of places
-- Assumes nothing.
use Rattle.std.specs.Prelude.{◌≡◌, ◌⊎◌, Bool, true, false, not, ℕ, zero, suc, ◌≤◌, ◌<◌}
use Rattle.board.specs.Grid.{tally}

pub record Board : Type 1 where
  -- the places are the numbers below the size
  pub size : ℕ
  -- the counts at the place fit
  pub ok : ℕ → Bool
  -- `Dep p q`: p needs q
  pub Dep : ℕ → ℕ → Type 0
  -- the test whether a place is met under a set
  pub met : (ℕ → Bool) → ℕ → Bool

-- What a place of the board needs is on the board.
abbrev pub Inside : Board → Type 0
Inside B = (p q : ℕ) → p < B.size → B.Dep p q → q < B.size

-- Proposition 8.1 of the paper: a place is met under a set exactly if it is ok and the set has all that it needs.
pub record Lawful (B : Board) : Type 0 where
  -- needs stay on the board
  pub inside : Inside B
  -- what is met is ok
  pub met-ok : (X : ℕ → Bool) (p : ℕ) → B.met X p ≡ true → B.ok p ≡ true
  -- and the set has what it needs
  pub met-dep : (X : ℕ → Bool) (p q : ℕ) → B.met X p ≡ true → B.Dep p q → X q ≡ true
  -- the two together are enough
  pub met_of : (X : ℕ → Bool) (p : ℕ) → B.ok p ≡ true → ((q : ℕ) → B.Dep p q → X q ≡ true) → B.met X p ≡ true
  -- what is not met fails one of the two
  pub unmet : (X : ℕ → Bool) (p : ℕ)
      → B.met X p ≡ false → (B.ok p ≡ false) ⊎ ((q : ℕ) × B.Dep p q × (X q ≡ false))

module _ (B : Board) where
  -- X has no place of the board that Y has not.
  abbrev pub Under : (ℕ → Bool) → (ℕ → Bool) → Type 0
  Under X Y = (p : ℕ) → p < B.size → X p ≡ true → Y p ≡ true

  -- Each place of X is met under X.
  abbrev pub SoundSet : (ℕ → Bool) → Type 0
  SoundSet X = (p : ℕ) → p < B.size → X p ≡ true → B.met X p ≡ true

  -- p falls in one of the first k rounds: it is not ok, or needs a place that falls in one of the first k - 1.
  abbrev pub Struck : ℕ → ℕ → Type 0
  Struck zero p = ⊥
  Struck (suc k) p = (B.ok p ≡ false) ⊎ ((q : ℕ) × B.Dep p q × Struck k q)

  -- The first `rounds` rounds strike, each something, and the next one strikes nothing; X is what is left.
  pub record Finished (X : ℕ → Bool) (strikes rounds : ℕ) : Type 0 where
    -- what is not left was struck
    pub only-struck : (p : ℕ) → p < B.size → X p ≡ false → Struck rounds p
    -- what was struck is not left
    pub all-struck : (p : ℕ) → p < B.size → Struck rounds p → X p ≡ false
    -- the next round strikes nothing more
    pub quiet : (p : ℕ) → p < B.size → Struck (suc rounds) p → Struck rounds p
    -- each round before it strikes a place that still stood
    pub noisy : (j : ℕ) → j < rounds → (p : ℕ) × (p < B.size) × Struck (suc j) p × (Struck j p → ⊥)
    -- the strikes are as many as the places that are not left
    pub count : strikes ≡ tally (λ p. not (X p)) B.size
    -- each of these rounds struck something
    pub bound : rounds ≤ strikes

  module _ (Book : ℕ → Type 0) where
    -- The closure: the bookings, and with a place all that it needs.
    pub data Closed : ℕ → Type 0 where
      booked : {p : ℕ} → Book p → Closed p
      follow : {p q : ℕ} → Closed p → B.Dep p q → Closed q

    -- X is the closure and has `found` places.
    pub record Flooded (X : ℕ → Bool) (found : ℕ) : Type 0 where
      -- it has the closure
      pub has : (p : ℕ) → Closed p → X p ≡ true
      -- and nothing else
      pub only : (p : ℕ) → p < B.size → X p ≡ true → Closed p
      -- the places that it has are counted
      pub count : found ≡ tally X B.size

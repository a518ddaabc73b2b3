-- The first number with a fault, as a search from 0 up finds it; no part of a promise.
--   First       the number, or the end of the search
--   FirstFound  the number, if there is one
-- Assumes nothing.
use Rattle.std.specs.Prelude.{ℕ, ◌≤◌, ◌<◌, Option, MatchOption}

-- The lowest number below an end that has a fault; the end where none has.
pub record First (Fault : ℕ → Type 0) (end place : ℕ) : Type 0 where
  -- it is below the end, or the end
  pub within : place ≤ end
  -- no lower number has a fault
  pub before : (q : ℕ) → q < place → Fault q → ⊥
  -- a number below the end has one
  pub here : place < end → Fault place

-- The lowest number below an end that has a fault, if one has.
abbrev pub FirstFound : (ℕ → Type 0) → ℕ → Option ℕ → Type 0
FirstFound Fault end found =
    MatchOption found (First Fault end end) (λ place. (place < end) × First Fault end place)

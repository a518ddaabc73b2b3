-- What the functions on grids leave behind; no part of a promise.
--   all           whether every place below a size passes a test
--   Marks         every byte of a grid is 0 or 1
--   Flipped       a grid has just the places that another one has not
--   FirstMissing  the lowest place that one grid has and another has not, or the end of the grid
--   MissingFound  the place, if there is one
-- Assumes nothing.
use Rattle.std.specs.Prelude.{
  ◌≡◌,
  ◌⊎◌,
  List,
  Bool,
  true,
  false,
  not,
  ℕ,
  ◌≤◌,
  ◌<◌,
  eqb,
  length,
  get_or,
  Option,
  MatchOption,
}
use Rattle.board.specs.Grid.{on, tally}

-- Whether every place below a size passes a test: none fails.
unfoldable pub all : (ℕ → Bool) → ℕ → Bool
all test n = eqb (tally (λ p. not (test p)) n) 0

-- Every byte is 0 or 1.
abbrev pub Marks : List ℕ → Type 0
Marks grid = (p : ℕ) → p < length grid → (get_or grid p 0 ≡ 0) ⊎ (get_or grid p 0 ≡ 1)

-- The grid `after` has just the places that `before` has not.
pub record Flipped (before after : List ℕ) : Type 0 where
  -- it has as many bytes
  pub full : length after ≡ length before
  -- at each place it is the other way round
  pub opposite : (p : ℕ) → p < length before → on after p ≡ not (on before p)
  -- its bytes are 0 or 1, whatever the others were
  pub marks : Marks after

-- The lowest place that `wanted` has and `had` has not; the length where there is none.
pub record FirstMissing (wanted had : List ℕ) (place : ℕ) : Type 0 where
  -- it is in the grid or at its end
  pub within : place ≤ length wanted
  -- every lower place that is wanted is had
  pub before : (p : ℕ) → p < place → on wanted p ≡ true → on had p ≡ true
  -- a place below the length is wanted and not had
  pub missing : place < length wanted → (on wanted place ≡ true) × (on had place ≡ false)

-- The lowest place that `wanted` has and `had` has not, if there is one.
abbrev pub MissingFound : List ℕ → List ℕ → Option ℕ → Type 0
MissingFound wanted had found =
    MatchOption found (FirstMissing wanted had (length wanted))
    (λ place. (place < length wanted) × FirstMissing wanted had place)

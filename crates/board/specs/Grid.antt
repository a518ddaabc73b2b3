-- Grids of bytes as sets of places, and counts of places (docs/FORMAT.md, "Typings").
--   on      whether a grid has a place: the byte there is 1
--   tally   how many places below a size pass a test
-- Assumes nothing.
use Rattle.std.specs.Prelude.{List, Bool, true, false, ℕ, zero, suc, ◌+◌, eqb, get_or}

-- A grid has a place where its byte is 1: there the card of the place has its shape.
unfoldable pub on : List ℕ → ℕ → Bool
on grid p = eqb (get_or grid p 0) 1

-- One for a test that passes, else nothing.
unfoldable pub bit : Bool → ℕ
bit true = 1
bit false = 0

-- How many places below a size pass a test.
unfoldable pub tally : (ℕ → Bool) → ℕ → ℕ
tally test zero = 0
tally test (suc n) = tally test n + bit (test n)

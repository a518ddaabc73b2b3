-- Which cards links touch, as a mark for each card; no part of a promise.
-- LinksAmong     what marking the cards asks
-- LinkedMarked   what it leaves
-- Assumes nothing.
use Rattle.std.specs.Prelude.{ℕ, ◌<◌, ◌≡◌, cond, List, length, get_or}
use Rattle.script.specs.Link.{from_at, to_at, linked}
use Rattle.script.specs.Steps.{LinksIn}

-- The first m links are in the script, and start at and lead to cards below a number.
pub record LinksAmong (script : List ℕ) (m cards : ℕ) : Type 0 where
  pub within : LinksIn script 0 m
  pub from_in : (i : ℕ) → i < m → from_at script i < cards
  pub to_in : (i : ℕ) → i < m → to_at script i < cards

-- A mark for each card: 1 where one of the first m links touches it, else 0.
pub record LinkedMarked (script : List ℕ) (m cards : ℕ) (marks : List ℕ) : Type 0 where
  pub size : length marks ≡ cards
  pub exact : (n : ℕ) → n < length marks → get_or marks n 0 ≡ cond (linked script n m) 1 0

-- What tidying a stored list asks; no part of a promise.
-- TidyAsked   a stored list that is read, and a buffer for the tidied one
-- Assumes nothing.
use Rattle.std.specs.Prelude.{ℕ, ◌+◌, ◌*◌, ◌<◌, ◌≡◌, List, length, get_or}
use Rattle.words.specs.Limits.{max_cards}
use Rattle.bookings.specs.Steps.{ListOf}
use Rattle.stored.specs.Stored.{stored_card_at}

-- A stored list of so many bookings of a script's cards, and a buffer with a word more for each.
pub record TidyAsked (bookings : List ℕ) (count : ℕ) (out : List ℕ) : Type 0 where
  pub sized : ListOf 2 bookings count
  pub counted : count ≡ get_or bookings 0 0
  pub cards : (i : ℕ) → i < count → stored_card_at bookings i < max_cards
  pub room : length out ≡ 1 + 3 * count

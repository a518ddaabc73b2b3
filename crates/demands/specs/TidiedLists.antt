-- Stored lists of bookings, which are tidied.
-- TidiedLists    what holds of the words that the pass writes
-- TidyDemand     it holds for all that is well-formed; proofs/TidiedLists proves it
-- From the crates below, tidied: a stored list with the first booking of each pair alone, as desk 0's; StoredBooked:
-- some booking of a stored list is of the card and the shape; StoredSmallestSays: what the call for the smallest would
-- say and write if it took stored lists.
-- Assumes nothing.
use Rattle.std.specs.Prelude.{ℕ, ◌+◌, ◌*◌, ◌<◌, ◌≡◌, ◌↔◌, List, [], ◌∷◌, length, get_or, take, drop, replicate}
use Rattle.words.specs.Said.{Said, values}
use Rattle.sheet.specs.Sheet.{Sheet, size}
use Rattle.bookings.specs.Bookings.{card_at, shape_at, Booked}
use Rattle.stored.specs.Stored.{stored_card_at, stored_shape_at, StoredBooked}
use Rattle.stored.specs.Tidied.{tidied}
use Rattle.board.specs.Grid.{tally}
use Rattle.typing.specs.Typing.{Pairs, Has}
use Rattle.typing.specs.Calls.{SmallestSays}
use Rattle.typing.specs.Tidy.{TidySays, StoredSmallestSays}
use Rattle.demands.specs.Formed.{Formed, BookingsFormed, StoredFormed}

-- The tidying pass, for every well-formed template, script and stored list, and a buffer with a word and three for each
-- booking, whatever its words were; so many words are said to be written:
pub record TidiedLists (template script bookings : List ℕ) (s : Sheet) (before after : List ℕ) (words : ℕ)
    : Type 0 where
  -- these words, at the buffer's start, are a list that every call takes,
  pub formed : BookingsFormed s.cards s.shapes (take words after)
  -- of the first booking of each pair, in the order in which they stood,
  pub firsts : take words after ≡ tidied bookings
  -- and the buffer's rest is as it was
  pub rest : drop words after ≡ drop words before
  -- desk 0 books the pairs that the stored list books and no others, each once, and desk 1 books none
  pub booked : (n t : ℕ) → Booked (take words after) 0 n t ↔ StoredBooked bookings n t
  pub none : (n t : ℕ) → Booked (take words after) 1 n t → ⊥
  pub counted : (X : Pairs) → ((n t : ℕ) → n < s.cards → t < s.shapes → Has s X n t ↔ StoredBooked bookings n t)
      → words ≡ 1 + 3 * tally X (size s)
  -- of a list in which no pair stands twice all bookings are kept, as they stood
  pub whole : ((j i : ℕ) → j < i → i < get_or bookings 0 0 → stored_card_at bookings j ≡ stored_card_at bookings i
      → stored_shape_at bookings j ≡ stored_shape_at bookings i → ⊥)
      → (words ≡ length before) × ((i : ℕ) → i < get_or bookings 0 0
      → (card_at after i ≡ stored_card_at bookings i) × (shape_at after i ≡ stored_shape_at bookings i))
  -- the smallest typing or its 50, answer and grid, is that of the stored list for desk 0, and empty for desk 1
  pub alike : (grid left : List ℕ) (said : Said)
      → StoredSmallestSays template script bookings grid left said
      ↔ SmallestSays template script (take words after) 0 grid left said
  pub other : (grid left : List ℕ) (said : Said) → length grid ≡ size s
      → SmallestSays template script (take words after) 1 grid left said
      → (said ≡ values (0 ∷ [])) × (left ≡ replicate (size s) 0)

abbrev pub TidyDemand : Type 0
TidyDemand = (template script bookings : List ℕ) (s : Sheet) → Formed template script s
    → StoredFormed s.cards s.shapes bookings
    → (before after : List ℕ) → length before ≡ 1 + 3 * get_or bookings 0 0
    → (said : Said) → TidySays template script bookings before after said
    → (words : ℕ) × (said ≡ values (words ∷ [])) × TidiedLists template script bookings s before after words

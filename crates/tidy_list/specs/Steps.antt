-- What the steps of tidying the list of an input ask for and leave behind; no part of a promise.
-- list_words, list_room   words of the longest list, and bytes that are enough for it or a refusal
-- BufferFor        words of the buffer that the call wants for a list
-- Tidying          such a buffer, and room for the text
-- SectionsLent     where the sections of an input are, and room for the text
-- Assumes nothing.
use Rattle.std.specs.Prelude.{ℕ, ◌+◌, ◌*◌, ◌≤◌, ◌≡◌, List, length, get_or}
use Rattle.words.specs.Limits.{max_bookings}
use Rattle.input.specs.Machine.{Laid}
use Rattle.input.specs.declared.Sections.{Sections}

-- A word for the count, and three for each booking.
abbrev pub list_words : ℕ
list_words = 1 + 3 * max_bookings

-- Two bytes for each word.
abbrev pub list_room : ℕ
list_room = 2 * list_words

-- So many words are no more than the longest list has, and just those that the call wants, unless the count is refused.
pub record BufferFor (bookings : List ℕ) (size : ℕ) : Type 0 where
  pub few : size ≤ list_words
  pub wanted : get_or bookings 0 0 ≤ max_bookings → size ≡ 1 + 3 * get_or bookings 0 0

-- A buffer of such a size, and room for the text.
pub record Tidying (bookings list out : List ℕ) : Type 0 where
  pub sized : BufferFor bookings (length list)
  pub room : list_room ≤ length out

-- The sections of an input, and room for the text.
pub record SectionsLent (input : List ℕ) (sections : Sections) (out : List ℕ) : Type 0 where
  pub laid : Laid input sections
  pub room : list_room ≤ length out

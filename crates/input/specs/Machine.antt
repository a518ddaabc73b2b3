-- What finding and decoding the sections of the input does; no part of a promise.
-- Decodes, Decoded       what decoding words into a buffer asks, and what it does
-- words_in, sections_read  the words of a section, and the reading that an answer stands for
-- part_in          the words of a section as a part of all words
-- SectionFound     a section that stands after its count
-- Within, AllWithin   a section is in the input, each section is
-- FrontLaid, FrontInside     each section of an answer is in an input of at most so many bytes, the last up to a place
-- Laid, SectionsInside     the same of the printer's input
-- Assumes nothing.
use Rattle.std.specs.Prelude.{ℕ, ◌+◌, ◌*◌, ◌/◌, ◌≤◌, ◌≡◌, List, length, take, drop, Option, IfSome, Some, None}
use Rattle.words.specs.Limits.{max_input}
use Rattle.words.specs.Reading.{Reading, accepted, turned_down}
use Rattle.input.specs.declared.Section.{Section}
use Rattle.input.specs.declared.Sections.{Sections}
use Rattle.input.specs.Input.{word_at, words_from, input_end, Input, input_of}

-- So many words from a byte on are in the bytes, and the buffer has room for them.
pub record Decodes (bytes : List ℕ) (at count : ℕ) (words : List ℕ) : Type 0 where
  pub inside : at + 2 * count ≤ length bytes
  pub room : count ≤ length words

-- The first `count` words of a buffer are those that stand in the bytes from a place on.
pub record Decoded (bytes : List ℕ) (at count : ℕ) (words : List ℕ) : Type 0 where
  -- the buffer has that many
  pub size : count ≡ length (take count words)
  -- and they are those words
  pub holds : take count words ≡ words_from bytes at count

-- The words of a section.
abbrev pub words_in : List ℕ → Section → List ℕ
words_in bytes s = words_from bytes s.at s.count

-- The reading that an answer stands for.
abbrev pub sections_read : List ℕ → Option Sections → Reading Input
sections_read bytes (Some s) =
    accepted (input_of (words_in bytes s.template) (words_in bytes s.script) (words_in bytes s.bookings))
sections_read bytes None = turned_down 60 0

-- The words of a section as a part of the words of all bytes.
abbrev pub part_in : List ℕ → Section → List ℕ
part_in words s = take s.count (drop (s.at / 2) words)

-- The words of a section stand after its count, which stands at a byte, and are all there.
pub record SectionFound (bytes : List ℕ) (at : ℕ) (s : Section) : Type 0 where
  pub starts : s.at ≡ at + 2
  pub counted : s.count ≡ word_at bytes at
  pub ends : s.at + 2 * s.count ≤ length bytes

-- A section is in the bytes and starts where a word of them does.
pub record Within (bytes : List ℕ) (s : Section) : Type 0 where
  pub ends : s.at + 2 * s.count ≤ length bytes
  pub even : s.at ≡ 2 * (s.at / 2)

-- Each section is.
pub record AllWithin (bytes : List ℕ) (s : Sections) : Type 0 where
  pub template : Within bytes s.template
  pub script : Within bytes s.script
  pub bookings : Within bytes s.bookings

-- The bytes are no more than so many, each section is in them, and past the last one the bookings end.
pub record FrontLaid (most : ℕ) (bytes : List ℕ) (s : Sections) : Type 0 where
  pub few : length bytes ≤ most
  pub within : AllWithin bytes s
  pub end : s.bookings.at + 2 * s.bookings.count ≡ input_end bytes

-- The sections of an answer are.
abbrev pub FrontInside : ℕ → List ℕ → Option Sections → Type 0
FrontInside most bytes found = IfSome found (FrontLaid most bytes)

-- The bytes are no more than the printer's input can be, and each section is in them.
pub record Laid (bytes : List ℕ) (s : Sections) : Type 0 where
  pub few : length bytes ≤ max_input
  pub within : AllWithin bytes s

-- The sections of an answer are.
abbrev pub SectionsInside : List ℕ → Option Sections → Type 0
SectionsInside bytes found = IfSome found (Laid bytes)

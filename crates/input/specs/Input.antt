-- The printer's input (docs/FORMAT.md, "The printer"): template, script and bookings, each after its count of words.
-- word_at, words_from          words of 16 bits in bytes, low byte first
-- section_end, section_words   a section that starts at a byte with its count of words
-- script_start, bookings_start, input_end   where the sections start and end
-- Input                      the words of the three sections
-- read_front                  these at the front of an input, or the refusal 60
-- read_input                  these alone, or the refusal 60
-- Assumes nothing.
use Rattle.std.specs.Prelude.{ℕ, zero, suc, ◌+◌, ◌*◌, List, [], ◌∷◌, ◌++◌, ltb, length, get_or}
use Rattle.words.specs.Limits.{max_input}
use Rattle.words.specs.Reading.{Reading, accepted, refuse, then}

-- The word at a byte: its low byte comes first.
unfoldable pub word_at : List ℕ → ℕ → ℕ
word_at bytes at = get_or bytes at 0 + 256 * get_or bytes (at + 1) 0

-- So many words from a byte on.
unfoldable pub words_from : List ℕ → ℕ → ℕ → List ℕ
words_from bytes at zero = []
words_from bytes at (suc n) = words_from bytes at n ++ (word_at bytes (at + 2 * n) ∷ [])

-- Where a section ends that starts at a byte: past its count and its words.
unfoldable pub section_end : List ℕ → ℕ → ℕ
section_end bytes at = at + 2 + 2 * word_at bytes at

-- The words of a section that starts at a byte: they stand after its count.
unfoldable pub section_words : List ℕ → ℕ → List ℕ
section_words bytes at = words_from bytes (at + 2) (word_at bytes at)

-- Where the script's section starts, where the bookings' does, and where that ends.
unfoldable pub script_start : List ℕ → ℕ
script_start bytes = section_end bytes 0

unfoldable pub bookings_start : List ℕ → ℕ
bookings_start bytes = section_end bytes (script_start bytes)

unfoldable pub input_end : List ℕ → ℕ
input_end bytes = section_end bytes (bookings_start bytes)

-- The words of template, script and bookings.
pub record Input : Type 0 where
  pub template : List ℕ
  pub script : List ℕ
  pub bookings : List ℕ

abbrev pub input_of : List ℕ → List ℕ → List ℕ → Input
input_of template script bookings = record { template = template; script = script; bookings = bookings }

-- Of an input of at most so many bytes. 60: it passes that; it ends before the template's count, before the script's,
-- before the bookings', before their last word.
unfoldable pub read_front : ℕ → List ℕ → Reading Input
read_front most bytes =
    refuse 60 0 (ltb most (length bytes))
    (refuse 60 0 (ltb (length bytes) 2)
    (refuse 60 0 (ltb (length bytes) (script_start bytes + 2))
    (refuse 60 0 (ltb (length bytes) (bookings_start bytes + 2))
    (refuse 60 0 (ltb (length bytes) (input_end bytes))
    (accepted (input_of (section_words bytes 0) (section_words bytes (script_start bytes))
    (section_words bytes (bookings_start bytes))))))))

-- Of the printer's input, of at most 65,536 bytes. 60: it goes on past the bookings.
unfoldable pub read_input : List ℕ → Reading Input
read_input bytes =
    then (read_front max_input bytes) (λ i. refuse 60 0 (ltb (input_end bytes) (length bytes)) (accepted i))

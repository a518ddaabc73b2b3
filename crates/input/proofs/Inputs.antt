-- Laws of the printer's input: what reading it gives under the tests that lead there.
--   words-next                 a word more
--   found-end, found-words, script-at, bookings-at, same-input   the sections that are found
--   front-too-long, front-short   the faults of its front
--   front-sections             else the three sections there
--   reads-faulty, reads-going-on   the faults of all of it
--   reads-front, reads-sections    else these
--   front-numbers, input-numbers   an input is refused with 60
-- Assumes nothing.
use mathlib.Core.Path.{◌≡◌, refl, ap, ◌∙◌}
use mathlib.Core.List.{List, [], ◌∷◌, ◌++◌}
use mathlib.Core.Bool.{Bool, true, false}
use Prim.Native.Nat.{ℕ, ◌+◌, ◌*◌, ◌≤◌, ◌<◌}
use native.Mathlib.Numerals.{add-one}
use native.Mathlib.Omega.{arith}
use lib.ListN.{length}
use lib.Dec.{ltb}
use borrow.Author.Tests.{lt-ltb, le-ltb}
use Rattle.words.specs.Limits.{max_input}
use Rattle.words.specs.Reading.{Reading, accepted, turned_down, refuse, then}
use Rattle.words.proofs.Readings.{refused, Numbered, refuse-numbered, then-numbered}
use Rattle.input.specs.Input.{word_at, words_from, section_end, section_words, script_start, bookings_start, input_end}
use Rattle.input.specs.Input.{Input, input_of, read_front, read_input}
use Rattle.input.specs.Machine.{words_in, SectionFound}
use Rattle.input.specs.declared.Section.{Section}

pub words-next : (bytes : List ℕ) (at n : ℕ)
    → words_from bytes at (n + 1) ≡ words_from bytes at n ++ (word_at bytes (at + 2 * n) ∷ [])
unfolding words_from
words-next bytes at n = rw (add-one n)

-- a section that is found after the count at a byte: where it ends, and its words
module _ {bytes : List ℕ} {at start : ℕ} (s : Section) (f : SectionFound bytes at s) (e : at ≡ start) where
  pub found-end : s.at + 2 * s.count ≡ section_end bytes start
  unfolding section_end
  found-end = rw (f.starts, f.counted, e) refl

  pub found-words : words_in bytes s ≡ section_words bytes start
  unfolding section_words
  found-words = rw (f.starts, f.counted, e) refl

-- where the section after it starts
module _ {bytes : List ℕ} {at next : ℕ} {s : Section} (f : SectionFound bytes at s) (n : next ≡ s.at + 2 * s.count)
  where
    pub script-at : at ≡ 0 → next ≡ script_start bytes
    unfolding script_start
    script-at e = n ∙ found-end s f e

    pub bookings-at : at ≡ script_start bytes → next ≡ bookings_start bytes
    unfolding bookings_start
    bookings-at e = n ∙ found-end s f e

pub same-input : {a b c x y z : List ℕ} → a ≡ x → b ≡ y → c ≡ z
    → input_of a b c ≡ input_of x y z
same-input e f g = rw (e, f, g) refl

-- a test that finds no fault
passes : (test : Bool) {rest reading : Reading Input} → test ≡ false → rest ≡ reading → refuse 60 0 test rest ≡ reading
passes test {rest} e f = ap (λ (b : Bool). refuse 60 0 b rest) e ∙ f

-- a test before a fault
still_faulty : (test : Bool) {rest : Reading Input} → rest ≡ turned_down 60 0 → refuse 60 0 test rest ≡ turned_down 60 0
still_faulty true e = refl
still_faulty false e = e

-- ---- the front of an input
module _ (most : ℕ) (bytes : List ℕ) where
  pub front-too-long : most < length bytes → read_front most bytes ≡ turned_down 60 0
  unfolding read_front
  front-too-long l = refused 60 0 _ _ (lt-ltb most (length bytes) l)

  pub front-short : length bytes < input_end bytes → read_front most bytes ≡ turned_down 60 0
  unfolding read_front
  front-short l =
      still_faulty (ltb most (length bytes))
      (still_faulty (ltb (length bytes) 2)
      (still_faulty (ltb (length bytes) (script_start bytes + 2))
      (still_faulty (ltb (length bytes) (bookings_start bytes + 2))
      (refused 60 0 _ _ (lt-ltb (length bytes) (input_end bytes) l)))))

  pub front-sections : length bytes ≤ most → input_end bytes ≤ length bytes → read_front most bytes
      ≡ accepted (input_of (section_words bytes 0) (section_words bytes (script_start bytes))
      (section_words bytes (bookings_start bytes)))
  unfolding read_front script_start bookings_start input_end section_end
  front-sections fits l =
      passes _ (le-ltb most (length bytes) fits)
      (passes _ (le-ltb (length bytes) 2 (omega arith))
      (passes _ (le-ltb (length bytes) (script_start bytes + 2) (omega arith))
      (passes _ (le-ltb (length bytes) (bookings_start bytes + 2) (omega arith))
      (passes _ (le-ltb (length bytes) (input_end bytes) l) refl))))

-- ---- the printer's input
-- What follows its front.
abbrev alone : List ℕ → Input → Reading Input
alone bytes i = refuse 60 0 (ltb (input_end bytes) (length bytes)) (accepted i)

module _ (bytes : List ℕ) where
  pub reads-faulty : read_front max_input bytes ≡ turned_down 60 0 → read_input bytes ≡ turned_down 60 0
  unfolding read_input
  reads-faulty e = ap (λ (r : Reading Input). then r (alone bytes)) e

  module _ {i : Input} (front : read_front max_input bytes ≡ accepted i) where
    pub reads-going-on : input_end bytes < length bytes → read_input bytes ≡ turned_down 60 0
    unfolding read_input
    reads-going-on l =
        ap (λ (r : Reading Input). then r (alone bytes)) front
        ∙ refused 60 0 _ _ (lt-ltb (input_end bytes) (length bytes) l)

    pub reads-front : length bytes ≤ input_end bytes → read_input bytes ≡ accepted i
    unfolding read_input
    reads-front l =
        ap (λ (r : Reading Input). then r (alone bytes)) front
        ∙ passes _ (le-ltb (input_end bytes) (length bytes) l) refl

  pub reads-sections : length bytes ≤ max_input → length bytes ≡ input_end bytes → read_input bytes
      ≡ accepted (input_of (section_words bytes 0) (section_words bytes (script_start bytes))
      (section_words bytes (bookings_start bytes)))
  reads-sections fits whole =
      reads-front (front-sections max_input bytes fits (omega arith)) (omega arith)

-- ---- the numbers
-- The number that an input is refused with.
abbrev InputNumber : ℕ → Type 0
InputNumber number = number ≡ 60

pub front-numbers : (most : ℕ) (bytes : List ℕ) → Numbered InputNumber (read_front most bytes)
unfolding read_front
front-numbers most bytes =
    refuse-numbered InputNumber 60 0 (ltb most (length bytes)) _ refl
    (refuse-numbered InputNumber 60 0 (ltb (length bytes) 2) _ refl
    (refuse-numbered InputNumber 60 0 (ltb (length bytes) (script_start bytes + 2)) _ refl
    (refuse-numbered InputNumber 60 0 (ltb (length bytes) (bookings_start bytes + 2)) _ refl
    (refuse-numbered InputNumber 60 0 (ltb (length bytes) (input_end bytes)) _ refl tt))))

pub input-numbers : (bytes : List ℕ) → Numbered InputNumber (read_input bytes)
unfolding read_input
input-numbers bytes =
    then-numbered InputNumber (read_front max_input bytes) (alone bytes) (front-numbers max_input bytes)
    (λ i. refuse-numbered InputNumber 60 0 (ltb (input_end bytes) (length bytes)) (accepted i) refl tt)

-- The bytes that are read as three lists of words are just those written for them.
--   words_size, word-at      the words written are as many, and stand where they were written
--   words-from               a row of words written is that row
--   words-section            a section is its count and its words
--   rewritten                bytes are those written for their words
--   input-read               what is written is read
--   written-bytes            words of 16 bits are written as bytes
--   inputs_are               and nothing else is read
-- Assumes nothing.
use Prim.Native.Nat.{ℕ, zero, suc, ◌+◌, ◌*◌, ◌/◌, ◌%◌, ◌≤◌, ◌<◌}
use mathlib.Core.Path.{◌≡◌, refl, sym, ap, ap₂, ◌∙◌, subst}
use mathlib.Core.Logic.{◌↔◌}
use mathlib.Core.List.{List, [], ◌∷◌, ◌++◌, append_assoc, append-nil}
use native.Mathlib.Omega.{arith}
use native.Mathlib.Nat.{div-add-mod', mod-lt, div-lt_iff_lt-mul}
use lib.ListN.{length, get_or, take, drop, length-append, length-drop}
use lib.Dec.{ltb}
use borrow.Author.Tests.{ltb-false}
use lib.Seq.{take_at, drop_at, get_or_at, take-suc, get_or-drop, drop-drop}
use Rattle.words.specs.Limits.{max_input}
use Rattle.words.specs.Bytes.{write_words}
use Rattle.words.specs.Reading.{Reading, accepted, refuse}
use Rattle.words.proofs.Places.{card-of, shape_of}
use Rattle.words.proofs.Readings.{accepted-same, passed, then-accepted}
use Rattle.input.specs.Input.{word_at, words_from, section_end, section_words, script_start, bookings_start, input_end}
use Rattle.input.specs.Input.{Input, input_of, read_front, read_input}
use Rattle.input.specs.Writer.{section, input_words, write_input, InputFormed, Bytes}
use Rattle.input.proofs.Inputs.{reads-sections, same-input}
use Rattle.input.proofs.Words.{words-length, words-split}

pub words_size : (ws : List ℕ) → length (write_words ws) ≡ 2 * length ws
words_size [] = refl
words_size (w ∷ ws) = omega (arith, words_size ws)

pub word-at : (ws : List ℕ) (k : ℕ) → word_at (write_words ws) (2 * k) ≡ get_or ws k 0
unfolding word_at
word-at [] k = refl
word-at (w ∷ ws) zero = omega (arith, div-add-mod' w 256)
word-at (w ∷ ws) (suc k) =
    let e : 2 * suc k ≡ suc (suc (2 * k)) = omega arith in
    let f : 2 * suc k + 1 ≡ suc (suc (2 * k + 1)) = omega arith in
    rw (f, e) (word-at ws k)

words-from : (ws : List ℕ) (a n : ℕ) → a + n ≤ length ws → words_from (write_words ws) (2 * a) n ≡ take n (drop a ws)
unfolding words_from
words-from ws a zero l = refl
words-from ws a (suc n) l =
    let e : 2 * a + 2 * n ≡ 2 * (a + n) = omega arith in
    let inside : n < length (drop a ws) = simp length-drop (omega arith) in
    rw e (ap₂ (λ (x : List ℕ) (y : ℕ). x ++ (y ∷ [])) (words-from ws a n (omega arith))
    (word-at ws (a + n) ∙ sym (get_or-drop a ws n 0)) ∙ sym (take-suc (drop a ws) n 0 inside))

-- ---- what is written is read
-- A section that stands among other words.
module _ (front words back : List ℕ) where
  abbrev among : List ℕ
  among = front ++ (section words ++ back)

  count_at : word_at (write_words among) (2 * length front) ≡ length words
  count_at = word-at among (length front) ∙ get_or_at front (length words) (words ++ back) 0 (length front) refl

  end-at-section : section_end (write_words among) (2 * length front) ≡ 2 * length (front ++ section words)
  unfolding section_end
  end-at-section = omega (arith, count_at, length-append front (section words))

  words-at-section : section_words (write_words among) (2 * length front) ≡ words
  unfolding section_words
  words-at-section =
      let e : 2 * length front + 2 ≡ 2 * (length front + 1) = omega arith in
      let room : length front + 1 + length words ≤ length among =
      omega (arith, length-append front (section words ++ back), length-append words back) in
      let past : drop (length front + 1) among ≡ words ++ back =
      sym (drop-drop 1 (length front) among)
      ∙ ap (drop 1) (drop_at front (section words ++ back) (length front) refl) in
      rw (count_at, e) (words-from among (length front + 1) (length words) room
      ∙ ap (take (length words)) past ∙ take_at words back (length words) refl)

-- The three sections of what is written.
module _ (i : Input) where
  abbrev bytes : List ℕ
  bytes = write_input i

  -- template and script, as words
  abbrev two : List ℕ
  two = section i.template ++ section i.script

  last-among : input_words i ≡ two ++ (section i.bookings ++ [])
  last-among =
      sym (append_assoc (section i.template) (section i.script) (section i.bookings))
      ∙ ap (λ (x : List ℕ). two ++ x) (sym (append-nil (section i.bookings)))

  script-start : script_start bytes ≡ 2 * length (section i.template)
  unfolding script_start
  script-start = end-at-section [] i.template (section i.script ++ section i.bookings)

  bookings-start : bookings_start bytes ≡ 2 * length two
  unfolding bookings_start
  bookings-start =
      ap (section_end bytes) script-start
      ∙ end-at-section (section i.template) i.script (section i.bookings)

  input-end : input_end bytes ≡ 2 * length (two ++ section i.bookings)
  unfolding input_end
  input-end =
      ap (section_end bytes) bookings-start
      ∙ ap (λ (x : List ℕ). section_end (write_words x) (2 * length two)) last-among
      ∙ end-at-section two i.bookings []

  -- the sections end where the bytes do
  sizes : length bytes ≡ input_end bytes
  sizes =
      words_size (input_words i)
      ∙ ap (λ (x : List ℕ). 2 * length x)
      (sym (append_assoc (section i.template) (section i.script) (section i.bookings)))
      ∙ sym input-end

  template-read : section_words bytes 0 ≡ i.template
  template-read = words-at-section [] i.template (section i.script ++ section i.bookings)

  script-read : section_words bytes (script_start bytes) ≡ i.script
  script-read =
      ap (section_words bytes) script-start
      ∙ words-at-section (section i.template) i.script (section i.bookings)

  bookings-read : section_words bytes (bookings_start bytes) ≡ i.bookings
  bookings-read =
      ap (section_words bytes) bookings-start
      ∙ ap (λ (x : List ℕ). section_words (write_words x) (2 * length two)) last-among
      ∙ words-at-section two i.bookings []

  -- Three lists of words written one after the other are read as these three, if they are not too long.
  pub input-read : 2 * length (input_words i) ≤ max_input → read_input (write_input i) ≡ accepted i
  input-read short =
      let all = words_size (input_words i) in
      reads-sections bytes (omega (arith, all)) sizes
      ∙ ap accepted (same-input template-read script-read bookings-read)

-- ---- and nothing else is
-- A section of bytes, as words: its count and its words.
words-section : (bytes : List ℕ) (at : ℕ)
    → words_from bytes at (1 + word_at bytes at) ≡ section (section_words bytes at)
unfolding words_from section_words
words-section bytes at =
    let e : at + 2 * 0 ≡ at = omega arith in
    let f : at + 2 * 1 ≡ at + 2 = omega arith in
    words-split bytes at 1 (word_at bytes at)
    ∙ ap₂ (λ (x y : ℕ). x ∷ words_from bytes y (word_at bytes at)) (ap (word_at bytes) e) f
    ∙ ap (λ (x : ℕ). x ∷ words_from bytes (at + 2) (word_at bytes at))
    (sym (words-length bytes (at + 2) (word_at bytes at)))

-- Two bytes on, past the first two.
word-shift : (a b : ℕ) (l : List ℕ) (k : ℕ) → word_at (a ∷ b ∷ l) (k + 2) ≡ word_at l k
unfolding word_at
word-shift a b l k =
    let e : k + 2 ≡ suc (suc k) = omega arith in
    let f : k + 2 + 1 ≡ suc (suc (k + 1)) = omega arith in
    rw (f, e) refl

words-shift : (a b : ℕ) (l : List ℕ) (at n : ℕ) → words_from (a ∷ b ∷ l) (at + 2) n ≡ words_from l at n
unfolding words_from
words-shift a b l at zero = refl
words-shift a b l at (suc n) =
    let e : at + 2 + 2 * n ≡ at + 2 * n + 2 = omega arith in
    rw e (ap₂ (λ (x : List ℕ) (y : ℕ). x ++ (y ∷ [])) (words-shift a b l at n) (word-shift a b l (at + 2 * n)))

words-first : (a b : ℕ) (l : List ℕ) (n : ℕ) → words_from (a ∷ b ∷ l) 0 (suc n) ≡ (a + 256 * b) ∷ words_from l 0 n
unfolding words_from word_at
words-first a b l n =
    let e : suc n ≡ 1 + n = omega arith in
    ap (words_from (a ∷ b ∷ l) 0) e ∙ words-split (a ∷ b ∷ l) 0 1 n
    ∙ ap (λ (x : List ℕ). (a + 256 * b) ∷ x) (words-shift a b l 0 n)

-- A word of two bytes is written as these.
word_back : (a b : ℕ) → a < 256 → ((a + 256 * b) % 256 ≡ a) × ((a + 256 * b) / 256 ≡ b)
word_back a b l =
    let e : a + 256 * b ≡ b * 256 + a = omega arith in
    let some : 0 < 256 = omega arith in
    (ap (λ (x : ℕ). x % 256) e ∙ shape_of 256 some b a l, ap (λ (x : ℕ). x / 256) e ∙ card-of 256 some b a l)

rewritten : (n : ℕ) (bytes : List ℕ) → length bytes ≡ 2 * n → Bytes bytes
    → bytes ≡ write_words (words_from bytes 0 n)
unfolding words_from
rewritten zero [] e h = refl
rewritten zero (a ∷ l) e h = absurd (omega arith)
rewritten (suc n) [] e h = absurd (omega arith)
rewritten (suc n) (a ∷ []) e h = absurd (omega arith)
rewritten (suc n) (a ∷ b ∷ l) e h =
    let (low, high) = word_back a b (h 0) in
    let rest = rewritten n l (omega arith) (λ p. h (suc (suc p))) in
    sym (ap write_words (words-first a b l n)
    ∙ ap₂ (λ (x y : ℕ). x ∷ y ∷ write_words (words_from l 0 n)) low high
    ∙ ap (λ (x : List ℕ). a ∷ b ∷ x) (sym rest))

-- What the tests of reading leave.
module _ (bytes : List ℕ) (i : Input) (read : read_input bytes ≡ accepted i) where
  passed-all : (length bytes ≤ max_input) × (length bytes ≡ input_end bytes)
      × (input_of (section_words bytes 0) (section_words bytes (script_start bytes))
      (section_words bytes (bookings_start bytes)) ≡ i)
  unfolding read_front read_input
  passed-all =
      let after : Input → Reading Input = λ j. refuse 60 0 (ltb (input_end bytes) (length bytes)) (accepted j) in
      let (front, e0, rest) = then-accepted (read_front max_input bytes) after i read in
      let (long, e1) = passed 60 0 (ltb max_input (length bytes)) _ front e0 in
      let (no-template, e2) = passed 60 0 (ltb (length bytes) 2) _ front e1 in
      let (no-script, e3) = passed 60 0 (ltb (length bytes) (script_start bytes + 2)) _ front e2 in
      let (no-bookings, e4) = passed 60 0 (ltb (length bytes) (bookings_start bytes + 2)) _ front e3 in
      let (early, e5) = passed 60 0 (ltb (length bytes) (input_end bytes)) _ front e4 in
      let (goes_on, e6) = passed 60 0 (ltb (input_end bytes) (length bytes)) _ i rest in
      let low = ltb-false (length bytes) (input_end bytes) early in
      let high = ltb-false (input_end bytes) (length bytes) goes_on in
      (ltb-false max_input (length bytes) long, omega arith, accepted-same e5 ∙ accepted-same e6)

  -- the words of the three sections, their counts among them
  abbrev words-in : ℕ
  words-in = (1 + word_at bytes 0) + ((1 + word_at bytes (script_start bytes)) + (1 + word_at bytes (bookings_start
      bytes)))

  whole : length bytes ≡ 2 * words-in
  unfolding input_end bookings_start script_start section_end
  whole = omega (arith, passed-all.1)

  script-from : 0 + 2 * (1 + word_at bytes 0) ≡ script_start bytes
  unfolding script_start section_end
  script-from = omega arith

  bookings-from : script_start bytes + 2 * (1 + word_at bytes (script_start bytes)) ≡ bookings_start bytes
  unfolding bookings_start section_end
  bookings-from = omega arith

  sections-are : words_from bytes 0 words-in ≡ input_words i
  sections-are =
      let t = 1 + word_at bytes 0 in
      let s = 1 + word_at bytes (script_start bytes) in
      let b = 1 + word_at bytes (bookings_start bytes) in
      words-split bytes 0 t (s + b)
      ∙ ap₂ (λ (x : List ℕ) (y : ℕ). x ++ words_from bytes y (s + b)) (words-section bytes 0) script-from
      ∙ ap (λ (x : List ℕ). section (section_words bytes 0) ++ x)
      (words-split bytes (script_start bytes) s b
      ∙ ap₂ (λ (x : List ℕ) (y : ℕ). x ++ words_from bytes y b) (words-section bytes (script_start bytes))
      bookings-from
      ∙ ap (λ (x : List ℕ). section (section_words bytes (script_start bytes)) ++ x)
      (words-section bytes (bookings_start bytes)))
      ∙ ap input_words passed-all.2

  pub read-is-written : Bytes bytes → bytes ≡ write_input i
  read-is-written h = rewritten words-in bytes whole h ∙ ap write_words sections-are

  pub read-is-formed : Bytes bytes → InputFormed i
  unfolding word_at
  read-is-formed h =
      let e = read-is-written h in
      record {
        words = λ k.
            let here = word-at (input_words i) k in
            let low = subst (λ (x : List ℕ). get_or x (2 * k) 0 < 256) e (h (2 * k)) in
            let high = subst (λ (x : List ℕ). get_or x (2 * k + 1) 0 < 256) e (h (2 * k + 1)) in
            omega (arith, here, low, high);
        short = omega (arith, passed-all.0, ap length e, words_size (input_words i));
      }

-- Words of 16 bits are written as bytes.
written-bytes : (ws : List ℕ) → ((k : ℕ) → get_or ws k 0 < 65536) → Bytes (write_words ws)
written-bytes [] h p = omega arith
written-bytes (w ∷ ws) h zero = mod-lt w (omega arith)
written-bytes (w ∷ ws) h (suc zero) =
    let some : 0 < 256 = omega arith in
    let low : w < 256 * 256 = omega (arith, h 0) in
    (div-lt_iff_lt-mul some).1 low
written-bytes (w ∷ ws) h (suc (suc p)) = written-bytes ws (λ k. h (suc k)) p

-- Bytes are read as three lists of words exactly if these are within the limits and the bytes are those written for
-- them.
pub inputs_are : (bytes : List ℕ) → Bytes bytes → (i : Input)
    → (read_input bytes ≡ accepted i) ↔ (InputFormed i × (bytes ≡ write_input i))
inputs_are bytes h i = (
  λ read. (read-is-formed bytes i read h, read-is-written bytes i read h),
  λ f. ap read_input f.1 ∙ input-read i f.0.short,
)

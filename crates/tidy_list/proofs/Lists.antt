-- From what the call says and writes to the text.
--   Told, told                  what an answer tells, with a buffer of the size that the call wants
--   refused-wrote, list_wrote   the text, by what was said
--   faulty-wrote                the text for an input at fault
-- Assumes nothing.
use Prim.Native.Nat.{ℕ, ◌≤◌}
use mathlib.Core.Path.{◌≡◌, refl, sym, ap, ◌∙◌, subst}
use mathlib.Core.List.{List, [], ◌∷◌}
use native.Mathlib.Omega.{arith}
use lib.ListN.{length, get_or, take, drop, length-append}
use Rattle.words.specs.Bytes.{write_words}
use Rattle.words.specs.Limits.{max_bookings}
use Rattle.words.specs.Said.{Said, values, refusal}
use Rattle.words.specs.Reading.{Reading, accepted, turned_down, then, mapped}
use Rattle.words.specs.Answered.{Answered, Unchanged}
use Rattle.words.specs.Writes.{Writes, write_said}
use Rattle.std.specs.Prelude.{Result, Ok, Err}
use Rattle.words.specs.Refused.{number as number_of}
use Rattle.words.specs.declared.refusal.Refusal.{Refusal}
use Rattle.words.specs.Wrote.{Wrote}
use Rattle.words.proofs.Said.{values-refusal, one_value}
use Rattle.words.proofs.Readings.{then-accepted}
use Rattle.words.proofs.Writing.{wrote-same, wrote-writes, writes-front}
use Rattle.input.specs.Input.{Input, read_input}
use Rattle.text.specs.Text.{refused_line}
use Rattle.sheet.specs.Sheet.{Sheet, read_sheet}
use Rattle.sheet.proofs.Accepted.{mapped-accepted}
use Rattle.stored.specs.Stored.{read_stored}
use Rattle.stored.specs.Tidied.{tidied}
use Rattle.stored.proofs.StoredLists.{stored_exact}
use Rattle.typing.specs.Calls.{with_stored}
use Rattle.typing.specs.Tidy.{with_buffer, tidy_reading, TidySays}
use Rattle.typing.proofs.Booked.{buffer-taken}
use Rattle.tidy_list.specs.TidyList.{tidied_words, list_text, tidy_text}
use Rattle.tidy_list.specs.Steps.{BufferFor}

-- What an answer of the call tells of the files and of the buffer after it.
abbrev pub Told : List ℕ → List ℕ → List ℕ → List ℕ → Result ℕ Refusal → Type 0
Told template script bookings after (Err r) =
    tidied_words template script bookings ≡ turned_down (number_of r.0) r.1
Told template script bookings after (Ok count) =
    (tidied_words template script bookings ≡ accepted (tidied bookings)) × (take count after ≡ tidied bookings)
    × (count ≤ length after)

module _ (template script bookings before after : List ℕ) (sized : BufferFor bookings (length before)) where
  -- the reading of the files
  abbrev listed : Reading Sheet
  listed = then (read_sheet template script) (with_stored bookings)

  -- a list that is read has no more bookings than one can have
  few : (s : Sheet) → listed ≡ accepted s → get_or bookings 0 0 ≤ max_bookings
  few s e =
      let (p, read, list) = then-accepted (read_sheet template script) (with_stored bookings) s e in
      let (count, stored, same) = mapped-accepted (λ count. p) (read_stored p.cards p.shapes bookings) s list in
      ((stored_exact p.cards p.shapes bookings count).0 stored).0.sized.few

  -- with the buffer that it wants the call refuses nothing else
  asked : (r : Reading Sheet) → listed ≡ r → tidy_reading template script bookings before ≡ r
  asked (turned_down number place) e = ap (λ (x : Reading Sheet). then x (with_buffer bookings before)) e
  asked (accepted s) e = buffer-taken bookings before listed s e (sized.wanted (few s e))

  -- what the call says of a reading
  abbrev Says : Reading Sheet → Said → Type 0
  Says r said = Answered r (Unchanged before after said) (λ s. Writes (tidied bookings) before after said)

  says : (said : Said) → TidySays template script bookings before after said → Says listed said
  says said x = subst (λ (r : Reading Sheet). Says r said) (asked listed refl) x

  refused-by : (r : Reading Sheet) (number place : ℕ) → Says r (refusal number (place ∷ []))
      → mapped (λ s. tidied bookings) r ≡ turned_down number place
  refused-by (turned_down n p) number place x =
      let e = x.0 in
      let i : n ≡ number = cc in
      let j : p ≡ place = cc in
      rw (i, j) refl
  refused-by (accepted s) number place w = values-refusal (sym w.says)

  written-by : (r : Reading Sheet) (count : ℕ) → Says r (values (count ∷ []))
      → (mapped (λ s. tidied bookings) r ≡ accepted (tidied bookings))
      × Writes (tidied bookings) before after (values (count ∷ []))
  written-by (turned_down n p) count x = values-refusal x.0
  written-by (accepted s) count w = (refl, w)

  -- by the call's answer: the reading's refusal; or the number of words of the tidied list, which are the buffer's
  -- front
  pub told : (answer : Result ℕ Refusal) → TidySays template script bookings before after (write_said answer)
      → Told template script bookings after answer
  unfolding tidied_words
  told (Err r) x = refused-by listed (number_of r.0) r.1 (says _ x)
  told (Ok count) x =
      let (reads, w) = written-by listed count (says _ x) in
      let long : count ≡ length (tidied bookings) = one_value w.says in
      let all = ap length w.writes ∙ length-append (tidied bookings) (drop (length (tidied bookings)) before) in
      (reads, writes-front count w, omega (arith, long, all))

-- ---- the text
-- What the files of an input are read on to.
abbrev read-on : Input → Reading (List ℕ)
read-on i = tidied_words i.template i.script i.bookings

module _ {before after : List ℕ} {next : ℕ} where
  module _ {reading : Reading (List ℕ)} where
    pub refused-wrote : {number place : ℕ} → reading ≡ turned_down number place
        → Wrote before 0 (refused_line number place) after next → Wrote before 0 (list_text reading) after next
    unfolding list_text
    refused-wrote e w = wrote-same (sym (ap list_text e)) w

    pub list_wrote : {words list : List ℕ} → reading ≡ accepted words → list ≡ words
        → Wrote before 0 (write_words list) after next → Wrote before 0 (list_text reading) after next
    unfolding list_text
    list_wrote e f w = wrote-same (ap write_words f ∙ sym (ap list_text e)) w

  -- the text for an input at fault
  pub faulty-wrote : (input : List ℕ) → read_input input ≡ turned_down 60 0 → Wrote before 0 (refused_line 60 0)
      after next
      → Writes (tidy_text input) before after (values (next ∷ []))
  faulty-wrote input e w =
      wrote-writes (refused-wrote (ap (λ (r : Reading Input). then r read-on) e) w)

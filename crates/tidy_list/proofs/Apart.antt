-- A list is told from a refusal by its second byte: the count of its bookings is at most 1,024.
--   tidied-few     the count of a tidied list
--   refusal-byte   the second byte of a refusal is an e
--   told-apart     the bytes of a list never start as a refusal does
-- Assumes nothing.
use Prim.Native.Nat.{ℕ, ◌/◌, ◌≤◌}
use mathlib.Core.Path.{◌≡◌, refl, sym, ap, ◌∙◌}
use mathlib.Core.List.{List, ◌++◌}
use native.Mathlib.Omega.{arith}
use lib.ListN.{get_or}
use Rattle.words.specs.Bytes.{write_words}
use Rattle.words.specs.Limits.{max_bookings}
use Rattle.words.specs.Reading.{accepted, then}
use Rattle.words.proofs.Readings.{then-accepted}
use Rattle.text.specs.Text.{refused_line}
use Rattle.sheet.specs.Sheet.{Sheet, read_sheet}
use Rattle.sheet.proofs.Accepted.{mapped-accepted}
use Rattle.bookings.proofs.Accepted.{listed-exact}
use Rattle.stored.specs.Stored.{read_stored}
use Rattle.stored.specs.Tidied.{tidied}
use Rattle.stored.proofs.Tidied.{tidied-listed}
use Rattle.typing.specs.Calls.{with_stored}
use Rattle.tidy_list.specs.TidyList.{tidied_words}

tidied-few : (template script bookings words : List ℕ) → tidied_words template script bookings ≡ accepted words
    → (words ≡ tidied bookings) × (get_or (tidied bookings) 0 0 ≤ max_bookings)
unfolding tidied_words
tidied-few template script bookings words e =
    let (s, listed, is) = mapped-accepted (λ (s : Sheet). tidied bookings)
    (then (read_sheet template script) (with_stored bookings)) words e in
    let (p, read, list) = then-accepted (read_sheet template script) (with_stored bookings) s listed in
    let (count, stored, same) = mapped-accepted (λ count. p) (read_stored p.cards p.shapes bookings) s list in
    let taken = tidied-listed p.cards p.shapes bookings count stored in
    (sym is, ((listed-exact p.cards p.shapes (tidied bookings) _).0 taken).0.sized.few)

second-byte : (bookings : List ℕ) → get_or (write_words (tidied bookings)) 1 0 ≡ get_or (tidied bookings) 0 0 / 256
unfolding tidied
second-byte bookings = refl

refusal-byte : (number place : ℕ) (rest : List ℕ) → get_or (refused_line number place ++ rest) 1 0 ≡ 101
unfolding refused_line
refusal-byte number place rest = refl

pub told-apart : (template script bookings words : List ℕ) → tidied_words template script bookings ≡ accepted words
    → (number place : ℕ) (rest : List ℕ) → write_words words ≡ refused_line number place ++ rest → ⊥
told-apart template script bookings words e number place rest starts =
    let (is, few) = tidied-few template script bookings words e in
    let byte : get_or (tidied bookings) 0 0 / 256 ≡ 101 =
    sym (second-byte bookings) ∙ ap (λ (l : List ℕ). get_or (write_words l) 1 0) (sym is)
    ∙ ap (λ (l : List ℕ). get_or l 1 0) starts ∙ refusal-byte number place rest in
    omega (arith, byte, few)

-- Tidying a list of bookings, over what its contract allows and for all inputs.
--   Tidies, tidy-values   a number of words is said of a stored list that is accepted; these words are the tidied list
--   tidied-taken   every call takes what is written
--   tidied-alike   the smallest typing or its 50, of the stored list and of what was written for desk 0, is the same
--   tidied-other   of what was written there are no pairs for desk 1, and the grid is all 0
--   tidy-one-answer, tidy-no-choice   two answers that are allowed for one input are equal, and so are the buffers
-- Assumes nothing.
use Prim.Native.Nat.{ℕ}
use mathlib.Core.Path.{◌≡◌}
use mathlib.Core.Logic.{◌↔◌}
use mathlib.Core.List.{List, [], ◌∷◌}
use native.Mathlib.Omega.{arith}
use lib.ListN.{length, take, replicate}
use borrow.Author.Tests.{eq-eqb}
use Rattle.words.specs.Said.{Said, values}
use Rattle.words.specs.Reading.{accepted, then}
use Rattle.words.specs.Writes.{write_said}
use Rattle.words.specs.declared.refusal.Refusal.{Refusal}
use Rattle.std.specs.Prelude.{Result}
use Rattle.words.proofs.Writing.{writes-front, writes-unique, write-said-unique}
use Rattle.words.proofs.Readings.{then-accepted}
use Rattle.words.proofs.Answered.{answered-values, answered-unique}
use Rattle.sheet.specs.Sheet.{Sheet, size, read_sheet}
use Rattle.sheet.proofs.Accepted.{mapped-accepted}
use Rattle.bookings.specs.Bookings.{read_bookings, Booked}
use Rattle.stored.specs.Stored.{stored_at, read_stored}
use Rattle.stored.specs.Tidied.{different, tidied}
use Rattle.stored.proofs.Tidied.{tidied-booked, tidied-desk, tidied-listed}
use Rattle.typing.specs.Calls.{with_stored, with_grid, SmallestFound, SmallestSays}
use Rattle.typing.specs.Tidy.{tidy_reading, TidySays, StoredSmallestSays}
use Rattle.typing.proofs.Booked.{buffer-asked}
use Rattle.typing.proofs.Existence.{represented}
use Rattle.typing.proofs.SamePairs.{smallest-answered-same}
use Rattle.typing.proofs.NoneBooked.{none-booked}

-- ---- no choice
module _ (template script bookings : List ℕ) where
  pub tidy-one-answer : (before g h : List ℕ) (a b : Said) → TidySays template script bookings before g a
      → TidySays template script bookings before h b → (a ≡ b) × (g ≡ h)
  tidy-one-answer before g h a b x y =
      answered-unique (λ refused. refused) (tidy_reading template script bookings before) before g h a b
      (λ s r. writes-unique {words = tidied bookings} {before = before}) x y

  pub tidy-no-choice : (before g h : List ℕ) (a b : Result ℕ Refusal)
      → TidySays template script bookings before g (write_said a)
      → TidySays template script bookings before h (write_said b) → (a ≡ b) × (g ≡ h)
  tidy-no-choice before g h a b x y =
      let (e, f) = tidy-one-answer before g h (write_said a) (write_said b) x y in
      (write-said-unique a b e, f)

-- ---- what is written
-- The files are read, the list as a stored one; the buffer begins with the tidied list, of so many
-- words.
pub record Tidies (template script bookings after : List ℕ) (words : ℕ) : Type 0 where
  pub sheet : Sheet
  pub count : ℕ
  pub read : read_sheet template script ≡ accepted sheet
  pub stored : read_stored sheet.cards sheet.shapes bookings ≡ accepted count
  pub front : take words after ≡ tidied bookings

module _ (template script bookings before after : List ℕ) (words : ℕ)
    (x : TidySays template script bookings before after (values (words ∷ []))) where
  pub tidy-values : Tidies template script bookings after words
  tidy-values =
      let (s, asked, found) = answered-values (tidy_reading template script bookings before) before after _ x in
      let listed = then (read_sheet template script) (with_stored bookings) in
      let taken = (buffer-asked bookings before listed s asked).0 in
      let (p, read, list) = then-accepted (read_sheet template script) (with_stored bookings) s taken in
      let (count, stored, same) =
      mapped-accepted (λ count. p) (read_stored p.cards p.shapes bookings) s list in
      record {
        sheet = p;
        count = count;
        read = read;
        stored = stored;
        front = writes-front words found;
      }

  -- every call takes what is written, with as many bookings as there are different pairs
  pub tidied-taken : (cards shapes count : ℕ) → read_stored cards shapes bookings ≡ accepted count
      → read_bookings cards shapes (take words after) ≡ accepted (different (stored_at bookings) count)
  tidied-taken cards shapes count stored =
      rw tidy-values.front (tidied-listed cards shapes bookings count stored)

  -- the smallest typing or its 50, answer and grid, whatever grid is lent: of the stored list, and of what was written
  -- for desk 0
  pub tidied-alike : (grid left : List ℕ) (said : Said)
      → StoredSmallestSays template script bookings grid left said
      ↔ SmallestSays template script (take words after) 0 grid left said
  tidied-alike grid left said =
      let t = tidy-values in
      let s = t.sheet in
      let listed = tidied-listed s.cards s.shapes bookings t.count t.stored in
      rw (t.front, t.read, t.stored, listed)
      (smallest-answered-same (with_grid grid s)
      (λ n u. ((tidied-booked bookings n u).1, (tidied-booked bookings n u).0)) grid left said)

  -- for desk 1 there are no pairs, and the grid is all 0
  pub tidied-other : (grid left : List ℕ) (said : Said)
      → SmallestSays template script (take words after) 1 grid left said
      → length grid ≡ size tidy-values.sheet
      → (said ≡ values (0 ∷ [])) × (left ≡ replicate (size tidy-values.sheet) 0)
  tidied-other grid left said x full =
      let t = tidy-values in
      let s = t.sheet in
      let listed = tidied-listed s.cards s.shapes bookings t.count t.stored in
      let found : SmallestFound s (Booked (tidied bookings) 1) left said =
      rw (t.front, t.read, listed, eq-eqb (length grid) (size s) full) at x in
      none-booked s (represented template script s t.read).1.one-shape
      (λ n u b. let e : 1 ≡ 0 = tidied-desk bookings b in absurd (omega (arith, e))) found

-- Which numbers the calls refuse with at one place: the template's, the script's, the bookings', the desk's, 40, and
-- of a grid that is judged 61 and 63.
--   LargestNumber, largest-numbers      of the call for the largest
--   SmallestNumber, listed-numbers, booked-numbers   of the files, and of these for a desk
--   smallest-numbers, both-numbers, desks-numbers    of the calls for the smallest, for both and for both desks
--   TidyNumber, tidy-numbers            of the call that tidies bookings
--   JudgeNumber, JudgeRefusal, judge-numbers   of the judge; its other number, 62, has two words for its place
-- Assumes nothing.
use Prim.Native.Nat.{ℕ, ◌+◌, ◌*◌}
use mathlib.Core.Path.{◌≡◌, refl, sym, ap, subst}
use mathlib.Core.Logic.{◌⊎◌, inl, inr}
use mathlib.Core.Bool.{Bool, not}
use mathlib.Core.List.{List}
use native.Mathlib.Omega.{arith}
use lib.ListN.{length, get_or}
use lib.Dec.{ltb, eqb}
use Rattle.words.specs.Said.{refusal}
use Rattle.words.specs.Reading.{Reading, accepted, turned_down, refuse, then}
use Rattle.words.specs.Answered.{Answered}
use Rattle.words.proofs.Said.{values-refusal, refusal-number, refusal-place}
use Rattle.words.proofs.Readings.{Numbered, refuse-numbered, then-numbered, mapped-numbered, numbered-map}
use Rattle.sheet.specs.Sheet.{Sheet, size, read_sheet}
use Rattle.sheet.proofs.Accepted.{SheetNumber, sheet-numbers}
use Rattle.bookings.specs.Bookings.{read_bookings}
use Rattle.stored.specs.Stored.{read_stored}
use Rattle.stored.proofs.StoredLists.{StoredNumber, stored-numbers}
use Rattle.bookings.proofs.Reading.{BookingNumber, bookings-numbers}
use Rattle.typing.specs.Calls.{with_list, with_stored, with_desk, with_grid, listed_reading, booked_reading}
use Rattle.typing.specs.Calls.{largest_reading, smallest_reading, Grids, both_reading}
use Rattle.typing.specs.Desks.{DeskGrids, desks_reading}
use Rattle.typing.specs.Tidy.{tidy_reading}
use Rattle.typing.specs.Judge.{Verdict, over, unmet, unheld, passes, verdict_said, JudgeFound, JudgeSays}

abbrev pub LargestNumber : ℕ → Type 0
LargestNumber n = SheetNumber n ⊎ (n ≡ 40)

abbrev pub SmallestNumber : ℕ → Type 0
SmallestNumber n = LargestNumber n ⊎ BookingNumber n

abbrev pub TidyNumber : ℕ → Type 0
TidyNumber n = LargestNumber n ⊎ StoredNumber n

abbrev pub JudgeNumber : ℕ → Type 0
JudgeNumber n = SmallestNumber n ⊎ (n ≡ 61) ⊎ (n ≡ 63)

-- 40 of a sheet that is read, by whatever test.
module _ (Number : ℕ → Type 0) (forty : Number 40) where
  forty-numbers : (test : Sheet → Bool) (r : Reading Sheet) → Numbered Number r
      → Numbered Number (then r (λ s. refuse 40 0 (test s) (accepted s)))
  forty-numbers test r h =
      then-numbered Number r (λ s. refuse 40 0 (test s) (accepted s)) h
      (λ s. refuse-numbered Number 40 0 (test s) (accepted s) forty tt)

  grid-numbers : (grid : List ℕ) (r : Reading Sheet) → Numbered Number r → Numbered Number (then r (with_grid grid))
  grid-numbers grid = forty-numbers (λ s. not (eqb (length grid) (size s)))

module _ (template script : List ℕ) where
  pub largest-numbers : (grid : List ℕ) → Numbered LargestNumber (largest_reading template script grid)
  largest-numbers grid =
      grid-numbers LargestNumber (inr refl) grid (read_sheet template script)
      (numbered-map SheetNumber LargestNumber (read_sheet template script) (λ n h. inl h)
      (sheet-numbers template script))

  module _ (bookings : List ℕ) where
    -- the refusals of template and script, and then of a list, by a reading of it
    list-numbers : (list : ℕ → ℕ → Reading ℕ) (ListNumber Number : ℕ → Type 0) → ((n : ℕ) → SheetNumber n → Number n)
        → ((n : ℕ) → ListNumber n → Number n) → ((cards shapes : ℕ) → Numbered ListNumber (list cards shapes))
        → Numbered Number (then (read_sheet template script) (with_list list))
    list-numbers list ListNumber Number sheet more h =
        then-numbered Number (read_sheet template script) (with_list list)
        (numbered-map SheetNumber Number (read_sheet template script) sheet (sheet-numbers template script))
        (λ s. mapped-numbered Number (λ count. s) (list s.cards s.shapes)
        (numbered-map ListNumber Number (list s.cards s.shapes) more (h s.cards s.shapes)))

    listed-numbers : Numbered SmallestNumber (listed_reading template script bookings)
    listed-numbers =
        list-numbers (λ cards shapes. read_bookings cards shapes bookings) BookingNumber SmallestNumber
        (λ n h. inl (inl h)) (λ n h. inr h) (λ cards shapes. bookings-numbers cards shapes bookings)

    booked-numbers : (desk : ℕ) → Numbered SmallestNumber (booked_reading template script bookings desk)
    booked-numbers desk =
        then-numbered SmallestNumber (listed_reading template script bookings) (with_desk desk) listed-numbers
        (λ s. refuse-numbered SmallestNumber 66 0 (ltb 1 desk) (accepted s) (inr (inr (omega arith, omega arith))) tt)

    pub smallest-numbers : (desk : ℕ) (grid : List ℕ)
        → Numbered SmallestNumber (smallest_reading template script bookings desk grid)
    smallest-numbers desk grid =
        grid-numbers SmallestNumber (inl (inr refl)) grid (booked_reading template script bookings desk)
        (booked-numbers desk)

    pub both-numbers : (desk : ℕ) (grids : Grids)
        → Numbered SmallestNumber (both_reading template script bookings desk grids)
    both-numbers desk grids =
        grid-numbers SmallestNumber (inl (inr refl)) grids.large
        (smallest_reading template script bookings desk grids.small) (smallest-numbers desk grids.small)

    pub desks-numbers : (grids : DeskGrids) → Numbered SmallestNumber (desks_reading template script bookings grids)
    desks-numbers grids =
        let listed = listed_reading template script bookings in
        let radio = then listed (with_grid grids.radio) in
        let television = then radio (with_grid grids.television) in
        grid-numbers SmallestNumber (inl (inr refl)) grids.large television
        (grid-numbers SmallestNumber (inl (inr refl)) grids.television radio
        (grid-numbers SmallestNumber (inl (inr refl)) grids.radio listed listed-numbers))

    pub tidy-numbers : (out : List ℕ) → Numbered TidyNumber (tidy_reading template script bookings out)
    tidy-numbers out =
        forty-numbers TidyNumber (inl (inr refl)) (λ s. not (eqb (length out) (1 + 3 * get_or bookings 0 0)))
        (then (read_sheet template script) (with_stored bookings))
        (list-numbers (λ cards shapes. read_stored cards shapes bookings) StoredNumber TidyNumber (λ n h. inl (inl h))
        (λ n h. inr h) (λ cards shapes. stored-numbers cards shapes bookings))

-- ---- the judge
-- A number with one place, or 62 with a card and a shape.
abbrev pub JudgeRefusal : ℕ → List ℕ → Type 0
JudgeRefusal number at = JudgeNumber number ⊎ ((number ≡ 62) × (length at ≡ 2))

verdict-numbers : (v : Verdict) (number : ℕ) (at : List ℕ) → refusal number at ≡ verdict_said v → JudgeRefusal
    number at
verdict-numbers (over p) number at e = inl (inr (inl (refusal-number e)))
verdict-numbers (unmet n t) number at e = inr (refusal-number e, ap length (refusal-place e))
verdict-numbers (unheld i) number at e = inl (inr (inr (refusal-number e)))
verdict-numbers passes number at e = values-refusal (sym e)

judge-by : (r : Reading Sheet) (bookings : List ℕ) (desk : ℕ) (grid : List ℕ) (number : ℕ) (at : List ℕ)
    → Numbered SmallestNumber r
    → Answered r (λ refused. refusal number at ≡ refused) (λ s. JudgeFound s bookings desk grid (refusal number at))
    → JudgeRefusal number at
judge-by (turned_down n p) bookings desk grid number at h x = inl (inl (subst SmallestNumber (sym (refusal-number
    x)) h))
judge-by (accepted s) bookings desk grid number at h x = verdict-numbers x.verdict number at x.says

pub judge-numbers : (template script bookings : List ℕ) (desk : ℕ) (grid : List ℕ) (number : ℕ) (at : List ℕ)
    → JudgeSays template script bookings desk grid (refusal number at) → JudgeRefusal number at
judge-numbers template script bookings desk grid number at =
    judge-by (smallest_reading template script bookings desk grid) bookings desk grid number at
    (smallest-numbers template script bookings desk grid)

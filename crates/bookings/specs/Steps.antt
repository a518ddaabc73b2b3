-- What the parts of the code ask and leave; no part of a promise.
-- ListOf           a list that has the words of so many bookings, each of so many words
-- WordsIn          the words of booking i stand in a list
-- CountRead        what looking at a list's count and length finds
-- PairsAsked       what reading the bookings of a list asks
-- BookingsIn       the bookings of a list are of cards and shapes of a sheet
-- LookupAsked      the first bookings of a list are chained by their cards, and there is room for one more
-- Entered          what looking a booking up among them tells and leaves: it is there, or is chained too
-- Assumes nothing.
use Rattle.std.specs.Prelude.{ℕ, suc, ◌+◌, ◌*◌, ◌≤◌, ◌<◌, ◌≡◌, Bool, true, false, List, length, get_or}
use Rattle.std.specs.Prelude.{Result, Ok, Err}
use Rattle.words.specs.Limits.{max_bookings, max_cards}
use Rattle.words.specs.Reading.{Reading, turned_down}
use Rattle.words.specs.Refused.{number}
use Rattle.words.specs.declared.refusal.Refusal.{Refusal}
use Rattle.words.specs.Chain.{Chained}
use Rattle.bookings.specs.Bookings.{Booking, read_list, booking_at, card_at, shape_at, booked_before}

-- The list has the words of so many bookings, and these are not too many.
pub record ListOf (width : ℕ) (bookings : List ℕ) (count : ℕ) : Type 0 where
  pub few : count ≤ max_bookings
  pub size : length bookings ≡ 1 + width * count

-- The words of booking i are in the list.
pub record WordsIn (width : ℕ) (bookings : List ℕ) (i : ℕ) : Type 0 where
  pub few : i < max_bookings
  pub inside : width * suc i < length bookings

-- A list with the words that its count asks for, which is then read one by one; or one that is refused, whatever the
-- rule for each booking.
abbrev pub CountRead : ℕ → List ℕ → Result ℕ Refusal → Type 0
CountRead width bookings (Ok count) = ListOf width bookings count × (count ≡ get_or bookings 0 0)
CountRead width bookings (Err r) =
    (rule : ℕ → Reading ℕ → Reading ℕ) → read_list width rule bookings ≡ turned_down (number r.0) r.1

-- A list of so many bookings; the cards are those of a script.
pub record PairsAsked (cards : ℕ) (bookings : List ℕ) (count : ℕ) : Type 0 where
  pub sized : ListOf 3 bookings count
  pub few-cards : cards ≤ max_cards

-- The first k bookings are of cards and shapes of a sheet.
abbrev pub BookingsIn : List ℕ → ℕ → ℕ → ℕ → Type 0
BookingsIn bookings cards shapes k = (i : ℕ) → i < k → (card_at bookings i < cards) × (shape_at bookings i < shapes)

-- The first k bookings of a list are chained by their cards, and there is room for a further one of a card.
pub record LookupAsked (bookings : List ℕ) (k card : ℕ) (first next : List ℕ) : Type 0 where
  pub chained : Chained (card_at bookings) first next k
  pub words : 1 + 3 * k ≤ length bookings
  pub few : k < max_bookings
  pub room : k < length next
  pub card-in : card < length first

-- A booking is looked up among the first k of a list. Where it is there the chains stay; where it is not, they have a
-- booking more, of its card.
pub record Entered (bookings : List ℕ) (k : ℕ) (b : Booking) (first next after_first after_next : List ℕ)
    (again : Bool) : Type 0 where
  pub told : again ≡ booked_before (booking_at bookings) b k
  pub heads : length after_first ≡ length first
  pub links : length after_next ≡ length next
  pub stays : again ≡ true → Chained (card_at bookings) after_first after_next k
  pub more : again ≡ false → (key : ℕ → ℕ) → ((j : ℕ) → j < k → key j ≡ card_at bookings j) → key k ≡ b.card
      → Chained key after_first after_next (k + 1)

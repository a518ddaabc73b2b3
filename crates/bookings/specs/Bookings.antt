-- A list of bookings (docs/FORMAT.md, "Bookings"; a pre-typing of each desk): a count, then a desk, a card and a shape
-- for each booking.
-- Booking                   whose a booking is, its card and its shape; same: two are
-- read_each, read_list        the count of any list of bookings, or its first refusal, by a rule for each booking
-- desk_index, card_index, shape_index   where the words of booking i stand
-- desk_at, card_at, shape_at, booking_at   its words
-- booked_before, repeated    a booking is one of the first; booking i is one of those before it
-- read_bookings              what reading a list finds
-- Booked                    some booking of the desk is of the card and the shape
-- desk_words                 the cards and shapes of a desk's bookings, in their order
-- Assumes nothing.
use Rattle.std.specs.Prelude.{ℕ, zero, suc, ◌+◌, ◌*◌, ◌<◌, ◌≡◌, Bool, false, not, ◌&&◌, ◌||◌, cond, List, [], ◌∷◌}
use Rattle.std.specs.Prelude.{length, get_or, ltb, leb, eqb}
use Rattle.words.specs.Limits.{max_bookings}
use Rattle.words.specs.Reading.{Reading, accepted, refuse}

-- Whose a booking is, 0 for radio and 1 for television, its card and its shape.
pub record Booking : Type 0 where
  pub desk : ℕ
  pub card : ℕ
  pub shape : ℕ

-- Two bookings are the same.
abbrev pub same : Booking → Booking → Bool
same a b = eqb a.desk b.desk && (eqb a.card b.card && eqb a.shape b.shape)

-- ---- any list of bookings
-- The n bookings from booking i on, each by a rule, and then what follows where none is at fault.
unfoldable pub read_each : (ℕ → Reading ℕ → Reading ℕ) → ℕ → ℕ → Reading ℕ → Reading ℕ
read_each rule zero i done = done
read_each rule (suc n) i done = rule i (read_each rule n (suc i) done)

-- 30: the list is empty. 31: its count is over 1,024. 30: it has other words than the count asks for, so many for each
-- booking. Then its bookings.
unfoldable pub read_list : ℕ → (ℕ → Reading ℕ → Reading ℕ) → List ℕ → Reading ℕ
read_list width rule bookings =
    refuse 30 0 (eqb (length bookings) 0)
    (refuse 31 0 (ltb max_bookings (get_or bookings 0 0))
    (refuse 30 0 (not (eqb (length bookings) (1 + width * get_or bookings 0 0)))
    (read_each rule (get_or bookings 0 0) 0 (accepted (get_or bookings 0 0)))))

-- Of the first k bookings, whether one is this.
unfoldable pub booked_before : (ℕ → Booking) → Booking → ℕ → Bool
booked_before nth b zero = false
booked_before nth b (suc k) = booked_before nth b k || same (nth k) b

-- Booking i is a repeat: an earlier one is the same.
unfoldable pub repeated : (ℕ → Booking) → ℕ → Bool
repeated nth i = booked_before nth (nth i) i

-- ---- a list of both desks
-- Where the desk, the card and the shape of booking i stand.
abbrev pub desk_index : ℕ → ℕ
desk_index i = 1 + 3 * i

abbrev pub card_index : ℕ → ℕ
card_index i = 2 + 3 * i

abbrev pub shape_index : ℕ → ℕ
shape_index i = 3 + 3 * i

-- Its words.
unfoldable pub desk_at : List ℕ → ℕ → ℕ
desk_at bookings i = get_or bookings (desk_index i) 0

unfoldable pub card_at : List ℕ → ℕ → ℕ
card_at bookings i = get_or bookings (card_index i) 0

unfoldable pub shape_at : List ℕ → ℕ → ℕ
shape_at bookings i = get_or bookings (shape_index i) 0

abbrev pub booking_at : List ℕ → ℕ → Booking
booking_at bookings i =
    record { desk = desk_at bookings i; card = card_at bookings i; shape = shape_at bookings i }

-- 66: the desk of booking i is over 1. 32: its card is not below the count of cards. 33: its shape is not below the
-- count of shapes. 65: it is a repeat.
abbrev pub booking_rule : ℕ → ℕ → List ℕ → ℕ → Reading ℕ → Reading ℕ
booking_rule cards shapes bookings i rest =
    refuse 66 (desk_index i) (ltb 1 (desk_at bookings i))
    (refuse 32 (card_index i) (leb cards (card_at bookings i))
    (refuse 33 (shape_index i) (leb shapes (shape_at bookings i))
    (refuse 65 (card_index i) (repeated (booking_at bookings) i) rest)))

-- What reading a list for so many cards and shapes finds.
abbrev pub read_bookings : ℕ → ℕ → List ℕ → Reading ℕ
read_bookings cards shapes bookings = read_list 3 (booking_rule cards shapes bookings) bookings

-- Some booking of the desk is of the card and the shape.
pub record Booked (bookings : List ℕ) (desk n t : ℕ) : Type 0 where
  pub booking : ℕ
  pub listed : booking < get_or bookings 0 0
  pub ours : desk_at bookings booking ≡ desk
  pub card : card_at bookings booking ≡ n
  pub shape : shape_at bookings booking ≡ t

-- Of the n bookings from booking i on, the card and the shape of each that is the desk's.
unfoldable pub desk_words_from : List ℕ → ℕ → ℕ → ℕ → List ℕ
desk_words_from bookings desk zero i = []
desk_words_from bookings desk (suc n) i =
    cond (eqb (desk_at bookings i) desk)
    (card_at bookings i ∷ shape_at bookings i ∷ desk_words_from bookings desk n (suc i))
    (desk_words_from bookings desk n (suc i))

-- Of all bookings.
abbrev pub desk_words : List ℕ → ℕ → List ℕ
desk_words bookings desk = desk_words_from bookings desk (get_or bookings 0 0) 0

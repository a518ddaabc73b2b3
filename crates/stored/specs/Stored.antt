-- A stored list of bookings (docs/FORMAT.md, "Tidying"): a count, then a card and a shape for each booking, in which a
-- pair may stand several times. All of its bookings are the radio desk's.
-- stored_card_index, stored_shape_index   where the words of booking i stand
-- stored_card_at, stored_shape_at, stored_at   its words
-- read_stored     what reading a list finds
-- StoredBooked   some booking is of the card and the shape
-- Assumes nothing.
use Rattle.std.specs.Prelude.{ℕ, ◌+◌, ◌*◌, ◌<◌, ◌≡◌, List, get_or, leb}
use Rattle.words.specs.Reading.{Reading, refuse}
use Rattle.bookings.specs.Bookings.{Booking, read_list}

-- Where the card and the shape of booking i stand.
abbrev pub stored_card_index : ℕ → ℕ
stored_card_index i = 1 + 2 * i

abbrev pub stored_shape_index : ℕ → ℕ
stored_shape_index i = 2 + 2 * i

-- Its words; its desk is 0.
unfoldable pub stored_card_at : List ℕ → ℕ → ℕ
stored_card_at bookings i = get_or bookings (stored_card_index i) 0

unfoldable pub stored_shape_at : List ℕ → ℕ → ℕ
stored_shape_at bookings i = get_or bookings (stored_shape_index i) 0

abbrev pub stored_at : List ℕ → ℕ → Booking
stored_at bookings i = record { desk = 0; card = stored_card_at bookings i; shape = stored_shape_at bookings i }

-- 32: the card of booking i is not below the count of cards. 33: its shape is not below the count of shapes.
abbrev pub stored_rule : ℕ → ℕ → List ℕ → ℕ → Reading ℕ → Reading ℕ
stored_rule cards shapes bookings i rest =
    refuse 32 (stored_card_index i) (leb cards (stored_card_at bookings i))
    (refuse 33 (stored_shape_index i) (leb shapes (stored_shape_at bookings i)) rest)

-- What reading a stored list for so many cards and shapes finds.
abbrev pub read_stored : ℕ → ℕ → List ℕ → Reading ℕ
read_stored cards shapes bookings = read_list 2 (stored_rule cards shapes bookings) bookings

-- Some booking of the list is of the card and the shape.
pub record StoredBooked (bookings : List ℕ) (n t : ℕ) : Type 0 where
  pub booking : ℕ
  pub listed : booking < get_or bookings 0 0
  pub card : stored_card_at bookings booking ≡ n
  pub shape : stored_shape_at bookings booking ≡ t

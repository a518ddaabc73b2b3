-- A stored list with the first booking of each pair alone, brought to the form of a list of both desks
-- (docs/FORMAT.md, "Tidy bookings").
-- different   how many different ones the first bookings are
-- firsts      the words of the first of each, in their order
-- tidied      the list of these, with its count
-- Assumes nothing.
use Rattle.std.specs.Prelude.{ℕ, zero, suc, cond, List, [], ◌∷◌, ◌++◌, get_or}
use Rattle.bookings.specs.Bookings.{Booking, repeated}
use Rattle.stored.specs.Stored.{stored_at}

-- How many of the first k bookings are no repeats.
unfoldable pub different : (ℕ → Booking) → ℕ → ℕ
different nth zero = 0
different nth (suc k) = cond (repeated nth k) (different nth k) (suc (different nth k))

-- The words of a booking.
abbrev pub words_of : Booking → List ℕ
words_of b = b.desk ∷ b.card ∷ b.shape ∷ []

-- The words of those that are no repeats, in order.
unfoldable pub firsts : (ℕ → Booking) → ℕ → List ℕ
firsts nth zero = []
firsts nth (suc k) = cond (repeated nth k) (firsts nth k) (firsts nth k ++ words_of (nth k))

-- Their count, and then their words; the desk of each is 0.
unfoldable pub tidied : List ℕ → List ℕ
tidied bookings =
    different (stored_at bookings) (get_or bookings 0 0) ∷ firsts (stored_at bookings) (get_or bookings 0 0)

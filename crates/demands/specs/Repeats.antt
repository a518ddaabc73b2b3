-- The samples of docs/FORMAT.md, "Smallest typing" and "Tidy bookings", of lists that are refused and of stored lists,
-- on the worked sheet.
-- Listing, AllRefused      a list with a refusal's number and place; the contract of the smallest has it
-- refused_lists             the samples
-- Tidying, AllAllowed      a list, the buffer before and after, and what is said; the contract of tidying allows it
-- tidyings                 the samples
-- Assumes nothing.
use Rattle.std.specs.Prelude.{ℕ, List, [], ◌∷◌, replicate}
use Rattle.words.specs.Said.{Said, values, refusal}
use Rattle.typing.specs.Calls.{SmallestSays}
use Rattle.typing.specs.Tidy.{TidySays}
use Rattle.demands.specs.Worked.{template, script}

-- ---- lists that every call refuses
-- A list, and the number and the place of its refusal.
pub data Listing : Type 0 where
  listing : List ℕ → ℕ → ℕ → Listing

-- The call for the smallest refuses it so, and leaves the grid as it was, whatever desk and grid that is.
abbrev pub AllRefused : List Listing → Type 0
AllRefused [] = Unit {0}
AllRefused (listing bookings number place ∷ xs) =
    ((desk : ℕ) (grid : List ℕ) → SmallestSays template script bookings desk grid grid (refusal number (place ∷ [])))
    × AllRefused xs

-- Radio books card 2 for shape 1 twice, and with a booking of each desk between.
abbrev pub next_to_each : List ℕ
next_to_each = 2 ∷ 0 ∷ 2 ∷ 1 ∷ 0 ∷ 2 ∷ 1 ∷ []

abbrev pub between : List ℕ
between = 4 ∷ 0 ∷ 2 ∷ 1 ∷ 0 ∷ 0 ∷ 0 ∷ 1 ∷ 2 ∷ 1 ∷ 0 ∷ 2 ∷ 1 ∷ []

-- A booking of a shape that there is not, between the two of a pair.
abbrev pub shape_between : List ℕ
shape_between = 3 ∷ 0 ∷ 2 ∷ 1 ∷ 0 ∷ 2 ∷ 2 ∷ 0 ∷ 2 ∷ 1 ∷ []

-- A booking of a desk that there is not.
abbrev pub third_desk : List ℕ
third_desk = 1 ∷ 2 ∷ 9 ∷ 9 ∷ []

abbrev pub refused_lists : List Listing
refused_lists =
    listing next_to_each 65 5
    ∷ listing between 65 11
    -- television books a pair twice
    ∷ listing (2 ∷ 1 ∷ 2 ∷ 1 ∷ 1 ∷ 2 ∷ 1 ∷ []) 65 5
    -- before the desk of the next booking
    ∷ listing (3 ∷ 0 ∷ 2 ∷ 1 ∷ 0 ∷ 2 ∷ 1 ∷ 9 ∷ 9 ∷ 9 ∷ []) 65 5
    -- after the shape of the one before
    ∷ listing shape_between 33 6
    -- the same card with a shape that there is not
    ∷ listing (2 ∷ 0 ∷ 2 ∷ 1 ∷ 0 ∷ 2 ∷ 2 ∷ []) 33 6
    -- the desk before the card, the card before the shape
    ∷ listing third_desk 66 1
    ∷ listing (1 ∷ 65535 ∷ 0 ∷ 0 ∷ []) 66 1
    ∷ listing (1 ∷ 0 ∷ 3 ∷ 1 ∷ []) 32 2
    ∷ listing (1 ∷ 1 ∷ 3 ∷ 9 ∷ []) 32 2
    -- a word too many, and a stored list
    ∷ listing (1 ∷ 0 ∷ 2 ∷ 1 ∷ 0 ∷ []) 30 0
    ∷ listing (1 ∷ 2 ∷ 1 ∷ []) 30 0
    ∷ []

-- ---- lists that are tidied
-- A list, the buffer before and after, and what is said.
pub data Tidying : Type 0 where
  tidying : List ℕ → List ℕ → List ℕ → Said → Tidying

-- The contract allows it.
abbrev pub AllAllowed : List Tidying → Type 0
AllAllowed [] = Unit {0}
AllAllowed (tidying bookings before after said ∷ xs) =
    TidySays template script bookings before after said × AllAllowed xs

-- So many words of 7.
abbrev pub sevens : ℕ → List ℕ
sevens words = replicate words 7

-- The pair of card 2 and shape 1 twice in a stored list, with another pair between; and tidied, in a buffer of sevens.
abbrev pub apart : List ℕ
apart = 3 ∷ 2 ∷ 1 ∷ 0 ∷ 0 ∷ 2 ∷ 1 ∷ []

abbrev pub apart_tidied : List ℕ
apart_tidied = 2 ∷ 0 ∷ 2 ∷ 1 ∷ 0 ∷ 0 ∷ 0 ∷ 7 ∷ 7 ∷ 7 ∷ []

abbrev pub tidyings : List Tidying
tidyings =
    tidying apart (sevens 10) apart_tidied (values (7 ∷ []))
    -- a word too many in the buffer, a word too few, and as many as the list has
    ∷ tidying apart (sevens 11) (sevens 11) (refusal 40 (0 ∷ []))
    ∷ tidying apart (sevens 9) (sevens 9) (refusal 40 (0 ∷ []))
    ∷ tidying apart (sevens 7) (sevens 7) (refusal 40 (0 ∷ []))
    -- no bookings
    ∷ tidying (0 ∷ []) (sevens 1) (0 ∷ []) (values (1 ∷ []))
    -- no pair stands twice
    ∷ tidying (2 ∷ 0 ∷ 0 ∷ 0 ∷ 1 ∷ []) (sevens 7) (2 ∷ 0 ∷ 0 ∷ 0 ∷ 0 ∷ 0 ∷ 1 ∷ []) (values (7 ∷ []))
    -- a shape that there is not comes before the buffer
    ∷ tidying (1 ∷ 2 ∷ 2 ∷ []) (sevens 9) (sevens 9) (refusal 33 (2 ∷ []))
    -- a pair that stands twice is passed over, and the card behind it is not there
    ∷ tidying (3 ∷ 2 ∷ 1 ∷ 2 ∷ 1 ∷ 9 ∷ 9 ∷ []) (sevens 10) (sevens 10) (refusal 32 (5 ∷ []))
    -- a list of both desks is no stored list
    ∷ tidying (1 ∷ 0 ∷ 2 ∷ 1 ∷ []) (sevens 4) (sevens 4) (refusal 30 (0 ∷ []))
    ∷ []

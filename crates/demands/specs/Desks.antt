-- The samples of docs/FORMAT.md, "Smallest typing", of the two desks, on the worked sheet.
-- Asking, AllAllowed   bookings, a desk, the grid before and after, and what is said; the contract allows it
-- same_pair             both desks book one pair
-- askings              the samples
-- Assumes nothing.
use Rattle.std.specs.Prelude.{ℕ, List, [], ◌∷◌, replicate}
use Rattle.words.specs.Said.{Said, refusal}
use Rattle.typing.specs.Calls.{SmallestSays}
use Rattle.demands.specs.Worked.{template, script, met_bookings, unmet_bookings, both_unmet, last_shape, no_shapes}
use Rattle.demands.specs.Worked.{smallest_answer, not_met_answer, none_answer}

-- Bookings, a desk, the grid before and after, and what is said.
pub data Asking : Type 0 where
  asking : List ℕ → ℕ → List ℕ → List ℕ → Said → Asking

-- The contract allows it.
abbrev pub AllAllowed : List Asking → Type 0
AllAllowed [] = Unit {0}
AllAllowed (asking bookings desk before after said ∷ xs) =
    SmallestSays template script bookings desk before after said × AllAllowed xs

-- So many bytes of 7.
abbrev pub sevens : ℕ → List ℕ
sevens bytes = replicate bytes 7

-- Both desks book card 2 for shape 1.
abbrev pub same_pair : List ℕ
same_pair = 2 ∷ 0 ∷ 2 ∷ 1 ∷ 1 ∷ 2 ∷ 1 ∷ []

abbrev pub askings : List Asking
askings =
    -- radio books, television does not
    asking met_bookings 0 (sevens 6) last_shape smallest_answer
    ∷ asking met_bookings 1 (sevens 6) no_shapes none_answer
    -- what radio books cannot be met, and nothing is wrong for television
    ∷ asking unmet_bookings 0 (sevens 6) no_shapes not_met_answer
    ∷ asking unmet_bookings 1 (sevens 6) no_shapes none_answer
    -- both desks book what cannot be met
    ∷ asking both_unmet 1 (sevens 6) no_shapes not_met_answer
    -- both desks book one pair
    ∷ asking same_pair 0 (sevens 6) last_shape smallest_answer
    ∷ asking same_pair 1 (sevens 6) last_shape smallest_answer
    -- there is no desk 2, and five bytes come after
    ∷ asking met_bookings 2 (sevens 5) (sevens 5) (refusal 66 (0 ∷ []))
    ∷ asking met_bookings 65535 (sevens 6) (sevens 6) (refusal 66 (0 ∷ []))
    ∷ asking met_bookings 1 (sevens 5) (sevens 5) (refusal 40 (0 ∷ []))
    ∷ []

-- The samples of docs/FORMAT.md, "Judge a grid", on the worked sheet: bookings, a desk, a grid, and what is
-- said.
-- Sample, Allowed, AllAllowed   a sample; the contract allows what it says; all samples
-- over_grid, unmet_grid, first_grid   a byte over 1; two pairs that are not met; the first pair of all is not met
-- each_books                     a booking of each desk
-- judgements                    the samples
-- Assumes nothing.
use Rattle.std.specs.Prelude.{ℕ, List, [], ◌∷◌}
use Rattle.words.specs.Said.{Said, values, refusal}
use Rattle.typing.specs.Judge.{JudgeSays}
use Rattle.demands.specs.Worked.{template, script, met_bookings, unmet_bookings, last_shape, no_shapes}

-- Bookings, a desk, a grid, and what is said of them.
pub data Sample : Type 0 where
  sample : List ℕ → ℕ → List ℕ → Said → Sample

-- The contract allows what a sample says.
abbrev pub Allowed : Sample → Type 0
Allowed (sample bookings desk grid said) = JudgeSays template script bookings desk grid said

abbrev pub AllAllowed : List Sample → Type 0
AllAllowed [] = Unit {0}
AllAllowed (x ∷ xs) = Allowed x × AllAllowed xs

-- Card 2 has shape 1, and a byte of card 0 is 2.
abbrev pub over_grid : List ℕ
over_grid = 0 ∷ 2 ∷ 0 ∷ 0 ∷ 0 ∷ 1 ∷ []

-- Card 2 has shape 1; card 1 has both shapes, and neither is met.
abbrev pub unmet_grid : List ℕ
unmet_grid = 0 ∷ 0 ∷ 1 ∷ 1 ∷ 0 ∷ 1 ∷ []

-- Card 2 has shape 1; card 0 has shape 0, which asks card 1 for the same.
abbrev pub first_grid : List ℕ
first_grid = 1 ∷ 0 ∷ 0 ∷ 0 ∷ 0 ∷ 1 ∷ []

-- Radio books card 2 for shape 1, and television card 0 for shape 0.
abbrev pub each_books : List ℕ
each_books = 2 ∷ 0 ∷ 2 ∷ 1 ∷ 1 ∷ 0 ∷ 0 ∷ []

abbrev pub judgements : List Sample
judgements =
    -- both typings are this grid
    sample met_bookings 0 last_shape (values [])
    -- television books nothing
    ∷ sample met_bookings 1 no_shapes (values [])
    -- five bytes for six pairs
    ∷ sample met_bookings 0 (0 ∷ 0 ∷ 0 ∷ 0 ∷ 0 ∷ []) (refusal 40 (0 ∷ []))
    -- there is no desk 2, and five bytes come after
    ∷ sample met_bookings 2 (0 ∷ 0 ∷ 0 ∷ 0 ∷ 0 ∷ []) (refusal 66 (0 ∷ []))
    -- the byte at place 1
    ∷ sample met_bookings 0 over_grid (refusal 61 (1 ∷ []))
    -- (1, 0) and (1, 1) are not met
    ∷ sample met_bookings 0 unmet_grid (refusal 62 (1 ∷ 0 ∷ []))
    -- (0, 0) is booked and is not in the grid
    ∷ sample unmet_bookings 0 last_shape (refusal 63 (2 ∷ []))
    -- it is for television, whose booking is the second
    ∷ sample each_books 1 last_shape (refusal 63 (5 ∷ []))
    -- and radio's is in the grid
    ∷ sample each_books 0 last_shape (values [])
    -- there is no card 3
    ∷ sample (1 ∷ 0 ∷ 3 ∷ 1 ∷ []) 0 last_shape (refusal 32 (2 ∷ []))
    -- radio books a pair twice, whichever desk is asked for
    ∷ sample (2 ∷ 0 ∷ 2 ∷ 1 ∷ 0 ∷ 2 ∷ 1 ∷ []) 1 last_shape (refusal 65 (5 ∷ []))
    ∷ []

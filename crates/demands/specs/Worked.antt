-- The worked sheet of docs/FORMAT.md, "One sheet worked through": its files, and the answers that are right for it.
-- template, script                 the sheet
-- met_bookings, unmet_bookings     radio books card 2 for shape 1, or card 0 for shape 0; both_unmet: both desks book
--                                  the latter
-- last_shape, no_shapes            the grids that are left: card 2 has shape 1, and no card has a shape
-- largest_answer, smallest_answer, not_met_answer, none_answer   what is said
-- Assumes nothing.
use Rattle.std.specs.Prelude.{ℕ, List, [], ◌∷◌}
use Rattle.words.specs.Said.{Said, values, refusal}

-- Two kinds and two shapes. Shape 0 asks for a link of kind 0 to shape 1, and for at most one of kind 1 to shape 0.
-- Shape 1 asks that there are no links.
abbrev pub template : List ℕ
template = 2 ∷ 2 ∷ 10 ∷ 17 ∷ 2 ∷ 256 ∷ 1 ∷ 1 ∷ 1 ∷ 257 ∷ 0 ∷ 0 ∷ 1 ∷ 1 ∷ 0 ∷ []

-- Three cards and three links: card 0 to card 2 by kind 0 and to card 1 by kind 1, card 1 to card 0 by kind 0.
abbrev pub script : List ℕ
script = 3 ∷ 3 ∷ 0 ∷ 0 ∷ 2 ∷ 0 ∷ 1 ∷ 1 ∷ 1 ∷ 0 ∷ 0 ∷ []

-- For radio card 2 has shape 1: this can be met.
abbrev pub met_bookings : List ℕ
met_bookings = 1 ∷ 0 ∷ 2 ∷ 1 ∷ []

-- For radio card 0 has shape 0: this cannot.
abbrev pub unmet_bookings : List ℕ
unmet_bookings = 1 ∷ 0 ∷ 0 ∷ 0 ∷ []

-- For both desks.
abbrev pub both_unmet : List ℕ
both_unmet = 2 ∷ 0 ∷ 0 ∷ 0 ∷ 1 ∷ 0 ∷ 0 ∷ []

-- Card 2 has shape 1, and no other card has a shape.
abbrev pub last_shape : List ℕ
last_shape = 0 ∷ 0 ∷ 0 ∷ 0 ∷ 0 ∷ 1 ∷ []

-- No card has a shape.
abbrev pub no_shapes : List ℕ
no_shapes = 0 ∷ 0 ∷ 0 ∷ 0 ∷ 0 ∷ 0 ∷ []

-- Four rounds, five pairs struck, two cards with some link and no shape.
abbrev pub largest_answer : Said
largest_answer = values (4 ∷ 5 ∷ 2 ∷ [])

-- One pair.
abbrev pub smallest_answer : Said
smallest_answer = values (1 ∷ [])

-- Card 0 with shape 1, which the booking leads to, is not met.
abbrev pub not_met_answer : Said
not_met_answer = refusal 50 (0 ∷ 1 ∷ [])

-- No pairs: nothing is booked.
abbrev pub none_answer : Said
none_answer = values (0 ∷ [])

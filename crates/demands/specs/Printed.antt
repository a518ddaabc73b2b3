-- The worked sheet as the printer takes and writes it (docs/FORMAT.md, "The printer").
-- worked_input, unmet_input, both_unmet_input   the bytes of template, script and bookings, each after its count of
--                                              words, low byte first
-- worked_text, unmet_text, both_unmet_text      the bytes that are printed for them
-- Assumes nothing.
use Rattle.std.specs.Prelude.{ℕ, List, [], ◌∷◌, ◌++◌}

-- The template's 15 words and the script's 11, each after its count.
abbrev pub two_files : List ℕ
two_files =
    15 ∷ 0 ∷ 2 ∷ 0 ∷ 2 ∷ 0 ∷ 10 ∷ 0 ∷ 17 ∷ 0 ∷ 2 ∷ 0 ∷ 0 ∷ 1 ∷ 1 ∷ 0 ∷ 1 ∷ 0 ∷ 1 ∷ 0 ∷ 1 ∷ 1 ∷ 0 ∷ 0 ∷ 0 ∷ 0
    ∷ 1 ∷ 0 ∷ 1 ∷ 0 ∷ 0 ∷ 0 ∷ 11 ∷ 0 ∷ 3 ∷ 0 ∷ 3 ∷ 0 ∷ 0 ∷ 0 ∷ 0 ∷ 0 ∷ 2 ∷ 0 ∷ 0 ∷ 0 ∷ 1 ∷ 0 ∷ 1 ∷ 0 ∷ 1 ∷ 0
    ∷ 0 ∷ 0 ∷ 0 ∷ 0 ∷ []

-- With the bookings 1 0 2 1, with 1 0 0 0, and with 2 0 0 0 1 0 0.
abbrev pub worked_input : List ℕ
worked_input = two_files ++ (4 ∷ 0 ∷ 1 ∷ 0 ∷ 0 ∷ 0 ∷ 2 ∷ 0 ∷ 1 ∷ 0 ∷ [])

abbrev pub unmet_input : List ℕ
unmet_input = two_files ++ (4 ∷ 0 ∷ 1 ∷ 0 ∷ 0 ∷ 0 ∷ 0 ∷ 0 ∷ 0 ∷ 0 ∷ [])

abbrev pub both_unmet_input : List ℕ
both_unmet_input = two_files ++ (7 ∷ 0 ∷ 2 ∷ 0 ∷ 0 ∷ 0 ∷ 0 ∷ 0 ∷ 0 ∷ 0 ∷ 1 ∷ 0 ∷ 0 ∷ 0 ∷ 0 ∷ 0 ∷ [])

-- "card 0:", "card 1:", "card 2: 1".
abbrev pub three_cards : List ℕ
three_cards =
    99 ∷ 97 ∷ 114 ∷ 100 ∷ 32 ∷ 48 ∷ 58 ∷ 10
    ∷ 99 ∷ 97 ∷ 114 ∷ 100 ∷ 32 ∷ 49 ∷ 58 ∷ 10
    ∷ 99 ∷ 97 ∷ 114 ∷ 100 ∷ 32 ∷ 50 ∷ 58 ∷ 32 ∷ 49 ∷ 10 ∷ []

-- "largest 4 5 2", and the cards.
abbrev pub largest_part : List ℕ
largest_part =
    (108 ∷ 97 ∷ 114 ∷ 103 ∷ 101 ∷ 115 ∷ 116 ∷ 32 ∷ 52 ∷ 32 ∷ 53 ∷ 32 ∷ 50 ∷ 10 ∷ []) ++ three_cards

-- "smallest 1", and the cards.
abbrev pub pair_part : List ℕ
pair_part = (115 ∷ 109 ∷ 97 ∷ 108 ∷ 108 ∷ 101 ∷ 115 ∷ 116 ∷ 32 ∷ 49 ∷ 10 ∷ []) ++ three_cards

-- "smallest 0", and "card 0:", "card 1:", "card 2:".
abbrev pub none_part : List ℕ
none_part =
    115 ∷ 109 ∷ 97 ∷ 108 ∷ 108 ∷ 101 ∷ 115 ∷ 116 ∷ 32 ∷ 48 ∷ 10
    ∷ 99 ∷ 97 ∷ 114 ∷ 100 ∷ 32 ∷ 48 ∷ 58 ∷ 10
    ∷ 99 ∷ 97 ∷ 114 ∷ 100 ∷ 32 ∷ 49 ∷ 58 ∷ 10
    ∷ 99 ∷ 97 ∷ 114 ∷ 100 ∷ 32 ∷ 50 ∷ 58 ∷ 10 ∷ []

-- "smallest no 0 1".
abbrev pub no_part : List ℕ
no_part = 115 ∷ 109 ∷ 97 ∷ 108 ∷ 108 ∷ 101 ∷ 115 ∷ 116 ∷ 32 ∷ 110 ∷ 111 ∷ 32 ∷ 48 ∷ 32 ∷ 49 ∷ 10 ∷ []

-- The largest, and then radio's part and television's.
abbrev pub worked_text : List ℕ
worked_text = largest_part ++ (pair_part ++ none_part)

abbrev pub unmet_text : List ℕ
unmet_text = largest_part ++ (no_part ++ none_part)

abbrev pub both_unmet_text : List ℕ
both_unmet_text = largest_part ++ (no_part ++ no_part)

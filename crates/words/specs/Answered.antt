-- The frame of a contract, whatever an operation reads: what it says and leaves.
-- Answered    where the reading turned down, what its refusal leaves; where it accepted, what is found
-- Unchanged   what a refusal leaves: it is said, and what was lent is as before
-- Assumes nothing.
use Rattle.std.specs.Prelude.{◌≡◌, [], ◌∷◌}
use Rattle.words.specs.Said.{Said, refusal}
use Rattle.words.specs.Reading.{Reading, accepted, turned_down}

-- Of a reading, of what its refusal leaves, and of what is found of what was read.
abbrev pub Answered : {A : Type 0} → Reading A → (Said → Type 0) → (A → Type 0) → Type 0
Answered (turned_down number place) Left Found = Left (refusal number (place ∷ []))
Answered (accepted a) Left Found = Found a

-- Of what is lent before and after, of what is said, and of the refusal.
abbrev pub Unchanged : {A B : Type 0} → A → A → B → B → Type 0
Unchanged before after said refused = (said ≡ refused) × (after ≡ before)

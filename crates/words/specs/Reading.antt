-- What reading words finds: what was read, or the first refusal.
-- Reading        accepted with what was read, or turned down with a refusal's number and place
-- refuse         one refusal of a decision list: number, place, the test for it, and what follows where it fails
-- then, mapped   reading goes on with what was accepted; what was accepted is made into something else
-- said_of         what a reading says, from the values of what is accepted
-- Assumes nothing.
use Rattle.std.specs.Prelude.{ℕ, Bool, true, false, List, [], ◌∷◌}
use Rattle.words.specs.Said.{Said, values, refusal}

pub data Reading (A : Type 0) : Type 0 where
  accepted : A → Reading A
  turned_down : ℕ → ℕ → Reading A

-- Refused with the number at the place if the test passes, else what follows.
abbrev pub refuse : {A : Type 0} → ℕ → ℕ → Bool → Reading A → Reading A
refuse number place true rest = turned_down number place
refuse number place false rest = rest

-- A refusal stays; what is accepted is read on.
abbrev pub then : {A B : Type 0} → Reading A → (A → Reading B) → Reading B
then (accepted a) rest = rest a
then (turned_down number place) rest = turned_down number place

abbrev pub mapped : {A B : Type 0} → (A → B) → Reading A → Reading B
mapped f (accepted a) = accepted (f a)
mapped f (turned_down number place) = turned_down number place

abbrev pub said_of : {A : Type 0} → (A → List ℕ) → Reading A → Said
said_of found (accepted a) = values (found a)
said_of found (turned_down number place) = refusal number (place ∷ [])

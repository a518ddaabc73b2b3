-- What the numbers of an answer say (docs/FORMAT.md, "Operations"): number 0 is no refusal, and each other number is a
-- refusal's. What an answer does not say is 0, so that no number is left to choice.
-- Numbers           a refusal's number, its place, its card and shape, and the values
-- plain             the numbers of a struct without a card and a shape
-- is_paired          the refusals whose place is a card and a shape
-- said, unsaid      what the numbers say, and those that then say nothing
-- Zeros, Tells      a list of zeros; the numbers say something that holds, and the others are 0
-- template_numbers ..   the numbers of each struct
-- copied            a buffer after words are copied to its front
-- Assumes nothing.
use Rattle.std.specs.Prelude.{ℕ, ◌≡◌, Bool, ◌||◌, cond, List, [], ◌∷◌, length, take, eqb}
use Rattle.words.specs.Said.{Said, values, refusal}
use Rattle.words.specs.Writes.{at_front}
use Rattle.typing.specs.Answer.{BothSaid}
use Rattle.capi.specs.declared.PrepTemplate.{PrepTemplate}
use Rattle.capi.specs.declared.PrepFit.{PrepFit}
use Rattle.capi.specs.declared.PrepScript.{PrepScript}
use Rattle.capi.specs.declared.PrepLargest.{PrepLargest}
use Rattle.capi.specs.declared.PrepSmallest.{PrepSmallest}
use Rattle.capi.specs.declared.PrepBoth.{PrepBoth}
use Rattle.capi.specs.declared.PrepJudge.{PrepJudge}
use Rattle.capi.specs.declared.PrepWritten.{PrepWritten}

-- The numbers of an answer; a struct without a card and a shape has 0 for them.
pub record Numbers : Type 0 where
  pub number : ℕ
  pub place : ℕ
  pub card : ℕ
  pub shape : ℕ
  pub found : List ℕ

-- Of a struct that has neither: number, place and values.
abbrev plain : ℕ → ℕ → List ℕ → Numbers
plain number place found = record { number = number; place = place; card = 0; shape = 0; found = found }

-- Whether a refusal's place is a card and a shape.
abbrev pub is_paired : ℕ → Bool
is_paired n = eqb n 50 || eqb n 62

-- The values where the number is 0; else the refusal, at its card and shape or at its place.
abbrev pub said : Numbers → Said
said r =
    cond (eqb r.number 0) (values r.found)
    (refusal r.number (cond (is_paired r.number) (r.card ∷ r.shape ∷ []) (r.place ∷ [])))

-- The numbers that then say nothing.
abbrev pub unsaid : Numbers → List ℕ
unsaid r =
    cond (eqb r.number 0) (r.place ∷ r.card ∷ r.shape ∷ [])
    (cond (is_paired r.number) (r.place ∷ r.found) (r.card ∷ r.shape ∷ r.found))

-- Each number of the list is 0.
abbrev pub Zeros : List ℕ → Type 0
Zeros [] = Unit {0}
Zeros (x ∷ xs) = (x ≡ 0) × Zeros xs

-- What the numbers say is allowed, and the others are 0.
abbrev pub Tells : (Said → Type 0) → Numbers → Type 0
Tells Allowed r = Allowed (said r) × Zeros (unsaid r)

-- The counts of kinds and of shapes.
abbrev pub template_numbers : PrepTemplate → Numbers
template_numbers r = plain r.number r.place (r.kinds ∷ r.shapes ∷ [])

-- Whether the counts fit: 1 or 0.
abbrev pub fit_numbers : PrepFit → Numbers
fit_numbers r = plain r.number r.place (r.fits ∷ [])

-- The counts of cards and of links.
abbrev pub script_numbers : PrepScript → Numbers
script_numbers r = plain r.number r.place (r.cards ∷ r.links ∷ [])

-- Rounds, pairs struck, cards with some link and no shape.
abbrev pub largest_numbers : PrepLargest → Numbers
largest_numbers r = plain r.number r.place (r.rounds ∷ r.struck ∷ r.bare ∷ [])

-- The number of pairs, or the card and shape of the pair that is not met.
abbrev pub smallest_numbers : PrepSmallest → Numbers
smallest_numbers r =
    record { number = r.number; place = r.place; card = r.card; shape = r.shape; found = r.pairs ∷ [] }

-- Of both typings, the smallest's numbers;
abbrev pub small_part : PrepBoth → Numbers
small_part r = record { number = r.number; place = r.place; card = r.card; shape = r.shape; found = r.pairs ∷ [] }

-- and the largest's: 50, bookings that are not met, refuses the smallest only.
abbrev pub large_part : PrepBoth → Numbers
large_part r = plain (cond (eqb r.number 50) 0 r.number) r.place (r.rounds ∷ r.struck ∷ r.bare ∷ [])

abbrev pub TellsBoth : (BothSaid → Type 0) → PrepBoth → Type 0
TellsBoth Allowed r =
    Allowed (record { largest = said (large_part r); smallest = said (small_part r) })
    × Zeros (unsaid (large_part r))
    × Zeros (unsaid (small_part r))

-- Nothing where the grid is accepted, or the card and shape of its pair that is not met.
abbrev pub judge_numbers : PrepJudge → Numbers
judge_numbers r = record { number = r.number; place = r.place; card = r.card; shape = r.shape; found = [] }

-- How many words or bytes were written.
abbrev pub written_numbers : PrepWritten → Numbers
written_numbers r = plain r.number r.place (r.written ∷ [])

-- As many words as there is room for stand at the buffer's front, and the rest of it is as before.
abbrev pub copied : List ℕ → List ℕ → List ℕ
copied words buffer = at_front (take (length buffer) words) buffer

-- What the answers of the calls say (docs/FORMAT.md, "Operations"). What tidying answers says is what all that writes
-- does (words/specs/Writes).
-- Assumes nothing.
use Rattle.std.specs.Prelude.{ℕ, [], ◌∷◌, Result, Ok, Err}
use Rattle.words.specs.Said.{Said, values, refusal}
use Rattle.words.specs.Refused.{refused, said_by}
use Rattle.words.specs.declared.Card.{Card}
use Rattle.words.specs.declared.Shape.{Shape}
use Rattle.words.specs.declared.refusal.Refusal.{Refusal}
use Rattle.typing.specs.declared.Struck.{Struck}
use Rattle.typing.specs.declared.Both.{Both}
use Rattle.typing.specs.declared.Desks.{Desks}

-- What was found of the largest typing: rounds, pairs struck, cards with some link and no shape.
abbrev pub struck_said : Struck → Said
struck_said r = values (r.rounds ∷ r.struck ∷ r.bare ∷ [])

-- A card and its shape are said of a pair that is not met, with this number.
abbrev pub pair_said : ℕ → Card × Shape → Said
pair_said number (card, shape) = refusal number (card.0 ∷ shape.0 ∷ [])

-- How a desk's bookings fared: the closure's number of pairs, or 50, with the card and the shape of its lowest pair
-- that is not met.
abbrev pub settled_said : Result ℕ (Card × Shape) → Said
settled_said (Ok pairs) = values (pairs ∷ [])
settled_said (Err pair) = pair_said 50 pair

-- What was found, or a template's or a script's number and place, or 40.
abbrev pub largest_said : Result Struck Refusal → Said
largest_said = said_by struck_said

-- How the bookings fared, or the number and place of what is refused before.
abbrev pub smallest_said : Result (Result ℕ (Card × Shape)) Refusal → Said
smallest_said = said_by settled_said

-- What the two calls say that one call of both stands for.
pub record BothSaid : Type 0 where
  pub largest : Said
  pub smallest : Said

-- One refusal for both.
abbrev pub both_refused : Said → BothSaid
both_refused refused = record { largest = refused; smallest = refused }

-- One answer stands for what the two calls say.
abbrev pub both_said : Result Both Refusal → BothSaid
both_said (Ok r) = record { largest = struck_said r.largest; smallest = settled_said r.smallest }
both_said (Err r) = both_refused (refused r)

-- What the call for both desks says: of the largest, and of each desk's smallest.
pub record DesksSaid : Type 0 where
  pub largest : Said
  pub radio : Said
  pub television : Said

-- One refusal for all.
abbrev pub desks_refused : Said → DesksSaid
desks_refused refused = record { largest = refused; radio = refused; television = refused }

-- What was found, or one number and place for all.
abbrev pub desks_said : Result Desks Refusal → DesksSaid
desks_said (Ok r) = record {
  largest = struck_said r.largest;
  radio = settled_said r.radio;
  television = settled_said r.television;
}
desks_said (Err r) = desks_refused (refused r)

-- Accepted: there is no number to say. Not met: 62, with a card and a shape for its place.
abbrev pub verdict_told : Result (Unit {0}) (Card × Shape) → Said
verdict_told (Ok _) = values []
verdict_told (Err pair) = pair_said 62 pair

-- So, or the number and place of what else is refused.
abbrev pub judge_said : Result (Result (Unit {0}) (Card × Shape)) Refusal → Said
judge_said = said_by verdict_told

-- What an operation says: values where nothing is turned down, or a refusal.
-- Assumes nothing.
use Rattle.std.specs.Prelude.{ℕ, List}

-- A refusal is a number and its place: an index, or for some numbers a card and a shape.
pub data Said : Type 0 where
  values : List ℕ → Said
  refusal : ℕ → List ℕ → Said

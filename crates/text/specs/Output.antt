-- What a function promises that writes its output to the front of a buffer.
-- Outputs   some text that is right is written there, and the number of its bytes is said
-- Assumes nothing.
use Rattle.std.specs.Prelude.{ℕ, List, [], ◌∷◌}
use Rattle.words.specs.Said.{values}
use Rattle.words.specs.Writes.{Writes}

-- Of which texts are right, of the buffer before and after, and of the number that is said.
pub record Outputs (Right : List ℕ → Type 0) (before after : List ℕ) (count : ℕ) : Type 0 where
  pub text : List ℕ
  pub right : Right text
  pub writes : Writes text before after (values (count ∷ []))

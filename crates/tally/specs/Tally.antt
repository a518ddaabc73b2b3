-- The tally of rounds and strikes; no part of a promise.
-- closed     the tally after one more round
-- HeadTally  the tally for the pair at the head of the queue
-- Assumes nothing.
use Rattle.std.specs.Prelude.{ℕ, ◌+◌, ◌≡◌}
use Rattle.tally.specs.declared.Tally.{Tally}

-- After each round the tally has one round more, and the pairs struck in all rounds so far.
abbrev pub closed : Tally → ℕ → Tally
closed tally struck = record { rounds = tally.rounds + 1; struck = struck }

-- One more round is closed if the head has come to the last strike of those closed, and else none is.
pub record HeadTally (tally : Tally) (head tail : ℕ) (found : Tally) : Type 0 where
  pub closes : head ≡ tally.struck → found ≡ closed tally tail
  pub stays : (head ≡ tally.struck → ⊥) → found ≡ tally

-- The queue of a search; no part of a promise.
--   Lists   the first entries of a queue are the places that fail a test
--   Listed  those that a grid has not
-- Assumes nothing.
use Rattle.std.specs.Prelude.{◌≡◌, List, Bool, false, not, ℕ, ◌<◌}
use Rattle.board.specs.Grid.{on, tally}
use Rattle.board.specs.Work.{entry, Queued}

-- The first `tail` entries of the queue are the places below n that fail the test, each once.
pub record Lists (test : ℕ → Bool) (queue : ℕ → ℕ) (tail n : ℕ) : Type 0 where
  -- there are as many entries as such places
  pub count : tail ≡ tally (λ p. not (test p)) n
  -- each entry is such a place
  pub queued : (i : ℕ) → i < tail → (queue i < n) × (test (queue i) ≡ false)
  -- each such place is an entry
  pub listed : (p : ℕ) → p < n → test p ≡ false → Queued queue tail p

-- The places below n that are not on in a grid are listed.
abbrev pub Listed : List ℕ → List ℕ → ℕ → ℕ → Type 0
Listed grid queue tail n = Lists (on grid) (entry queue) tail n

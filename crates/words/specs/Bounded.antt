-- What is left of a number that a call gives where its size matters; no part of a promise.
-- Assumes nothing.
use Rattle.std.specs.Prelude.{ℕ, ◌<◌, ◌≡◌}

-- What is given is the number x, and it is below a limit.
pub record Bounded (limit x given : ℕ) : Type 0 where
  pub same : given ≡ x
  pub small : given < limit

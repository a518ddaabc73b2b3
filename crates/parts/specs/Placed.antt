-- What was read, and the next place.
-- Assumes nothing.
use Rattle.std.specs.Prelude.{ℕ}

-- What was read, and the place after its words.
pub record Placed (A : Type 0) : Type 0 where
  pub value : A
  pub next : ℕ

abbrev pub placed : {A : Type 0} → A → ℕ → Placed A
placed value next = record { value = value; next = next }

-- What was read becomes a part of something larger.
abbrev pub onto : {A B : Type 0} → (A → B) → Placed A → Placed B
onto f t = placed (f t.value) t.next

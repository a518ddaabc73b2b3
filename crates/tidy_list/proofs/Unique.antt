-- The list tidier has no choice: of one input and one buffer one is left.
--   tidy-list-unique   one buffer and one number of bytes
-- Assumes nothing.
use Prim.Native.Nat.{ℕ}
use mathlib.Core.Path.{◌≡◌}
use mathlib.Core.List.{List, [], ◌∷◌}
use Rattle.words.specs.Said.{values}
use Rattle.words.specs.Writes.{Writes}
use Rattle.words.proofs.Said.{one_value}
use Rattle.words.proofs.Writing.{writes-unique}
use Rattle.tidy_list.specs.TidyList.{tidy_text}

pub tidy-list-unique : (input before after other : List ℕ) (next end : ℕ)
    → Writes (tidy_text input) before after (values (next ∷ []))
    → Writes (tidy_text input) before other (values (end ∷ [])) → (after ≡ other) × (next ≡ end)
tidy-list-unique input before after other next end x y =
    let (said, left) = writes-unique x y in
    (left, one_value said)

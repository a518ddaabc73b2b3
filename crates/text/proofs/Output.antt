-- Laws of an output.
--   outputs-wrote    a right text that was written from the start on is one
--   wrote-counted    its bytes stand at the buffer's front
--   outputs-unique   where one text is right, no choice is left
-- Assumes nothing.
use Prim.Native.Nat.{ℕ, ◌≤◌}
use mathlib.Core.Path.{◌≡◌, sym, subst}
use mathlib.Core.List.{List, [], ◌∷◌}
use native.Mathlib.Omega.{arith}
use lib.ListN.{length}
use lib.Seq.{length-take-le}
use Rattle.words.specs.Said.{values}
use Rattle.words.specs.Wrote.{Wrote}
use Rattle.words.specs.Writes.{Writes}
use Rattle.words.proofs.Said.{one_value}
use Rattle.words.proofs.Writing.{wrote-length, wrote-writes, writes-unique}
use Rattle.text.specs.Output.{Outputs}
use Rattle.text.specs.Steps.{Counted}

pub wrote-counted : {before text after : List ℕ} {next : ℕ} → Wrote before 0 text after next → Counted after next
wrote-counted {after = after} {next = next} w =
    let inside : next ≤ length after = omega (arith, w.room, wrote-length w) in
    record { room = inside; size = sym (length-take-le next after inside) }

module _ {Right : List ℕ → Type 0} {before : List ℕ} where
  pub outputs-wrote : {text after : List ℕ} {next : ℕ} → Right text → Wrote before 0 text after next
      → Outputs Right before after next
  outputs-wrote {text} right w = record { text = text; right = right; writes = wrote-writes w }

  pub outputs-unique : {after other : List ℕ} {next end : ℕ} → ((a b : List ℕ) → Right a → Right b → a ≡ b)
      → Outputs Right before after next → Outputs Right before other end → (after ≡ other) × (next ≡ end)
  outputs-unique {after} {other} {next} {end} one x y =
      let same = one y.text x.text y.right x.right in
      let w : Writes x.text before other (values (end ∷ [])) =
      subst (λ (text : List ℕ). Writes text before other (values (end ∷ []))) same y.writes in
      let (said, left) = writes-unique x.writes w in
      (left, one_value said)

-- `sheet_text::put_settled` adds how a desk's bookings fared. Assumes nothing.
use mathlib.Core.Path.{ap}
use mathlib.Core.List.{List, [], ◌∷◌, ◌++◌}
use Prim.Native.Nat.{ℕ}
use native.Mathlib.Omega.{arith}
use Rattle.text.specs.Steps.{smallest_no}
use Rattle.text.specs.Text.{card_lines}
use Rattle.text.proofs.Lines.{line-bound, smallest-line, not-met-line}
use Rattle.text.proofs.Adding.{adds-same}
use Rattle.sheet_text.proofs.put_settled.Goals as goal

pub line-requires : goal.line-requires
line-requires c = omega (arith, line-bound smallest_no (c.in-Err.card.0 ∷ c.in-Err.shape.0 ∷ []))

pub returns-in-Ok : goal.returns-in-Ok
returns-in-Ok c =
    let args = c.args in
    rw c.in-Ok.is (adds-same c.put_typing.ensures (ap
    (λ (l : List ℕ). l ++ card_lines args.grid.now args.e.shapes args.e.cards) (smallest-line c.in-Ok.pairs)))

pub returns-in-Err : goal.returns-in-Err
returns-in-Err c =
    rw c.in-Err.is (adds-same c.line.ensures (not-met-line c.in-Err.card.0 c.in-Err.shape.0))

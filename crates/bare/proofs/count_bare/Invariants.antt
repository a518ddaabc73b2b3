-- `bare::count_bare` counts the cards with some link and no shape. The invariant: `bare` of the cards below `n` are
-- marked and have no shape. Assumes nothing.
use mathlib.Core.Path.{◌≡◌}
use Prim.Native.Nat.{◌≤◌}
use Rattle.board.specs.Grid.{tally}
use Rattle.bare.proofs.Rows.{is_bare}
use Rattle.bare.proofs.count_bare.Given as goal

abbrev pub invariant-loop-n : goal.invariant-loop-n
invariant-loop-n l = (l.bare ≤ l.n) × (l.bare ≡ tally (is_bare l.linked l.grid l.shapes) l.n)

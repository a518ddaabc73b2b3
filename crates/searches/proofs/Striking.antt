-- What striking rounds leaves is the largest typing.
--   struck-found   the grid and the numbers that are left
-- Assumes nothing.
use Prim.Native.Nat.{ℕ}
use mathlib.Core.Path.{◌≡◌, ◌∙◌}
use mathlib.Core.List.{List, [], ◌∷◌}
use native.Mathlib.Omega.{arith}
use Rattle.words.specs.Said.{values}
use Rattle.board.specs.Grid.{on}
use Rattle.sheet.specs.Sheet.{Sheet}
use Rattle.sheet.specs.declared.Extent.{Extent}
use Rattle.typing.specs.Largest.{bare_cards}
use Rattle.typing.specs.Calls.{LargestFound}
use Rattle.typing.proofs.Largest.{largest-found}
use Rattle.rounds.specs.Rounds.{StrikesLeft}
use Rattle.pairs.specs.Pairs.{SheetTested}
use Rattle.pairs.proofs.Tested.{full, marks, stands}

pub struck-found : {s : Sheet} {script names : List ℕ} {e : Extent} {grid after : List ℕ} {rounds struck bare : ℕ}
    → SheetTested s script names e grid
    → StrikesLeft script names e.shapes grid after rounds struck → bare ≡ bare_cards s (on after)
    → LargestFound s after (values (rounds ∷ struck ∷ bare ∷ []))
struck-found {after = after} t left counted =
    let found = left.searched in
    largest-found (stands t) after _ found.striking _ _
    (record { full = left.size ∙ full t; bytes = λ p l. left.marks (marks t) p (omega (arith, left.size, full t)) })
    found.counted found.finished counted

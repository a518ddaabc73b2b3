-- `board::all_off` tells whether no place is on: the library looks for a byte of 1. Assumes nothing.
use mathlib.Core.Path.{◌≡◌, sym}
use mathlib.Core.List.{List}
use mathlib.Core.Bool.{Bool, true, false, not}
use Prim.Native.Nat.{ℕ}
use native.Mathlib.Omega.{arith}
use lib.ListN.{length}
use lib.Dec.{eqb}
use borrow.Author.Tests.{eq-eqb, ne_eqb}
use Rattle.std.specs.List.{IsAnyAnswer}
use Rattle.board.specs.Grid.{on, tally}
use Rattle.board.proofs.Tally.{tally-none, tally-pos}
use Rattle.board.proofs.all_off.Goals as goal

-- a byte of 1 is one place at least that is on
none-on : (grid : List ℕ) (found : Bool) → IsAnyAnswer (λ y b. eqb y 1 ≡ b) grid found
    → not found ≡ eqb (tally (on grid) (length grid)) 0
unfolding on
none-on grid true (p, l, e) =
    let some = tally-pos (on grid) (length grid) p l (e 0) in
    sym (ne_eqb (tally (on grid) (length grid)) 0 (λ none. omega arith))
none-on grid false none = sym (eq-eqb (tally (on grid) (length grid)) 0
    (tally-none (on grid) (length grid) (λ p l. none p 0 (omega arith) l)))

pub returns : goal.returns
returns c = none-on c.args.grid.now c.contains.result c.contains.ensures.cases

-- `bare::count_bare` counts the cards with some link and no shape. The invariant: `bare` of the cards below `n` are
-- marked and have no shape. Assumes nothing.
use mathlib.Core.Path.{◌∙◌, ◌≡◌, ap, sym}
use Prim.Native.Nat.{◌*◌, ◌+◌, ◌≤◌, ℕ}
use native.Mathlib.Omega.{arith}
use lib.ListN.{length}
use Rattle.board.proofs.Tally.{tally-zero}
use Rattle.words.proofs.Places.{card-room}
use Rattle.bare.proofs.Rows.{is_bare, bare-hit, blank-miss, shaped-miss, row-off, bare-counted}
use Rattle.bare.proofs.count_bare.Goals as goal
use Rattle.bare.proofs.count_bare.Goals.{In-loop-n, then-linked-n-eq1+then-all_off, else-linked-n-eq1}
use Rattle.bare.proofs.count_bare.Goals.{else-linked-n-eq1-via-then-linked-n-eq1+else-all_off}
use Rattle.bare.proofs.count_bare.Goals.{else-linked-n-eq1-via-else-linked-n-eq1}

-- the row of the loop's card is in the grid
row_in : (i : In-loop-n) → i.loop-n.n * i.from-shapes.result + i.from-shapes.result ≤ length i.args.grid.now
row_in i =
    let inside = card-room i.args.e.cards i.args.e.shapes i.loop-n.n (omega arith) in
    rw i.from-shapes.ensures (omega (arith, inside, i.requires.full))

pub loop-n-init : goal.loop-n-init
loop-n-init c =
    (omega arith, sym (tally-zero (is_bare c.mark_linked.new.linked c.args.grid.now c.from-shapes.result)))

pub loop-n-preserved : goal.loop-n-preserved
loop-n-preserved c =
    let marks = c.mark_linked.new.linked in
    let grid = c.args.grid.now in
    let shapes = c.from-shapes.result in
    let n = c.loop-n.n in
    let so_far = c.loop-n.invariant.1 in
    let row = row-off grid (n * shapes) shapes (row_in (goal.at.loop-n-preserved c).In-loop-n) in
    elim c.if-linked-n-eq1.branch [
      | then-linked-n-eq1+then-all_off w ↦ (
        omega (arith, w.bare-is),
        w.bare-is ∙ ap (λ (x : ℕ). x + 1) so_far
            ∙ sym (bare-hit marks grid shapes n w.if-linked-n-eq1.true (sym (w.all_off.ensures ∙ row) ∙
            w.if-all_off.true)),
      )
      | else-linked-n-eq1 w ↦ (
        omega (arith, w.bare-is),
        w.bare-is ∙ so_far ∙ sym (elim w.else-linked-n-eq1.branch [
          | else-linked-n-eq1-via-then-linked-n-eq1+else-all_off v ↦
              shaped-miss marks grid shapes n (sym (v.all_off.ensures ∙ row) ∙ v.if-all_off.false)
          | else-linked-n-eq1-via-else-linked-n-eq1 v ↦ blank-miss marks grid shapes n v.if-linked-n-eq1.false
        ]),
      )
    ]

pub returns : goal.returns
returns c s counted =
    let args = c.args in
    let marks = c.mark_linked.new.linked in
    let all-cards : c.loop-n.n ≡ args.e.cards = omega arith in
    let marked = rw c.from.ensures at c.mark_linked.ensures in
    let told = rw (all-cards, c.from-shapes.ensures) at c.loop-n.invariant.1 in
    told ∙ bare-counted args.script.now args.e marks args.grid.now s counted marked c.requires.few-cards

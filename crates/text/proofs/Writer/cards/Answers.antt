-- `text::Writer::cards` adds the cards' lines. The invariant: those of the cards below `n` are added. Assumes nothing.
use mathlib.Core.Path.{sym}
use native.Mathlib.Omega.{arith}
use Rattle.text.specs.Text.{card_lines}
use Rattle.text.proofs.Adding.{adds_nothing, adds-append, adds-same}
use Rattle.text.proofs.Lines.{cards-next, cards-room, row_inside}
use Rattle.text.proofs.Writer.cards.Goals as goal

pub loop-n-init : goal.loop-n-init
unfolding card_lines
loop-n-init c = adds_nothing _ (omega arith)

pub card-requires : goal.card-requires
card-requires c =
    let args = c.args in
    let n = c.loop-n.n in
    record {
      inside = omega (arith, row_inside n args.cards args.shapes (omega arith));
      room = omega (arith, cards-room args.grid.now args.shapes n args.cards (omega arith));
    }

pub loop-n-preserved : goal.loop-n-preserved
loop-n-preserved c =
    adds-same (adds-append c.loop-n.invariant c.card.ensures) (sym (cards-next c.args.grid.now c.args.shapes
    c.loop-n.n))

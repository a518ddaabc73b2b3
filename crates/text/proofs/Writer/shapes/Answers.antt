-- `text::Writer::shapes` adds a card's shapes. The invariant: those below `shape` are added. Assumes nothing.
use mathlib.Core.Path.{sym}
use native.Mathlib.Omega.{arith}
use Rattle.text.specs.Text.{shapes_text}
use Rattle.text.proofs.Adding.{adds_nothing, adds-append, adds-same}
use Rattle.text.proofs.Lines.{shapes-next, shapes_room}
use Rattle.text.proofs.Writer.shapes.Goals as goal

pub loop-shape-init : goal.loop-shape-init
unfolding shapes_text
loop-shape-init c = adds_nothing _ (omega arith)

pub shape-requires : goal.shape-requires
shape-requires c =
    record {
      inside = omega arith;
      room = omega (arith, shapes_room c.args.grid.now c.args.base c.loop-shape.shape c.args.shapes (omega arith));
    }

pub loop-shape-preserved : goal.loop-shape-preserved
loop-shape-preserved c =
    adds-same (adds-append c.loop-shape.invariant c.shape.ensures)
    (sym (shapes-next c.args.grid.now c.args.base c.loop-shape.shape))

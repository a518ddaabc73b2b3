-- `text::Writer::shapes` adds a card's shapes. The invariant: those below `shape` are added. Assumes nothing.
use Rattle.text.specs.Text.{shapes_text}
use Rattle.text.specs.Steps.{Adds}
use Rattle.text.proofs.Writer.shapes.Given as goal

abbrev pub invariant-loop-shape : goal.invariant-loop-shape
invariant-loop-shape l = Adds l.initial.self (shapes_text l.grid l.base l.shape) l.self

-- `text::Writer::cards` adds the cards' lines. The invariant: those of the cards below `n` are added. Assumes nothing.
use Rattle.text.specs.Text.{card_lines}
use Rattle.text.specs.Steps.{Adds}
use Rattle.text.proofs.Writer.cards.Given as goal

abbrev pub invariant-loop-n : goal.invariant-loop-n
invariant-loop-n l = Adds l.initial.self (card_lines l.grid l.shapes l.n) l.self

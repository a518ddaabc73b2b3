-- `text::Writer::line` adds a word and then numbers. The invariant: those below the index are added. Assumes nothing.
use mathlib.Core.List.{◌++◌}
use lib.ListN.{take}
use Rattle.text.specs.Steps.{spaced, Adds}
use Rattle.text.proofs.Writer.line.Given as goal

abbrev pub invariant-loop-number : goal.invariant-loop-number
invariant-loop-number l = Adds l.fn.self (l.word ++ spaced (take l.number-index l.numbers)) l.self

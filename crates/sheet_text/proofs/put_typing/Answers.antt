-- `sheet_text::put_typing` adds a line and then those of the cards, which have room. Assumes nothing.
use native.Mathlib.Omega.{arith}
use Rattle.text.proofs.Lines.{cards-bound, line-bound}
use Rattle.text.proofs.Adding.{adds-append}
use Rattle.sheet_text.proofs.put_typing.Goals as goal

pub line-requires : goal.line-requires
line-requires c = omega (arith, line-bound c.args.word.now c.args.numbers.now)

pub cards-requires : goal.cards-requires
cards-requires c =
    let s = c.requires.lent in
    let line = line-bound c.args.word.now c.args.numbers.now in
    let lines = cards-bound c.args.grid.now c.args.e.shapes c.args.e.cards s.few-shapes s.few-cards in
    record { inside = s.inside; room = omega (arith, line, lines) }

pub returns : goal.returns
returns c = adds-append c.line.ensures c.cards.ensures

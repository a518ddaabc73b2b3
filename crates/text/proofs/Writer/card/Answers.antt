-- `text::Writer::card` adds a card's line: its five pieces one after the other. Assumes nothing.
use native.Mathlib.Omega.{arith}
use Rattle.text.specs.Text.{card_line}
use Rattle.text.proofs.Adding.{adds-append}
use Rattle.text.proofs.Lines.{card-length}
use Rattle.text.proofs.Writer.card.Goals as goal

pub bytes-requires : goal.bytes-requires
bytes-requires c = omega (arith, card-length c.args.grid.now c.args.shapes c.args.n)

pub number-requires : goal.number-requires
number-requires c = omega (arith, card-length c.args.grid.now c.args.shapes c.args.n)

pub byte-requires : goal.byte-requires
byte-requires c = omega (arith, card-length c.args.grid.now c.args.shapes c.args.n)

pub shapes-requires : goal.shapes-requires
shapes-requires c =
    record {
      inside = c.requires.inside;
      room = omega (arith, card-length c.args.grid.now c.args.shapes c.args.n);
    }

pub byte-requires-2 : goal.byte-requires-2
byte-requires-2 c = omega (arith, card-length c.args.grid.now c.args.shapes c.args.n)

pub returns : goal.returns
unfolding card_line
returns c =
    adds-append c.bytes.ensures
    (adds-append c.number.ensures
    (adds-append c.byte.ensures
    (adds-append c.shapes.ensures c.byte-2.ensures)))

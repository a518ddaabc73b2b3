-- `text::put_refused` writes the line of a refusal. Assumes nothing.
use mathlib.Core.Path.{ap}
use native.Mathlib.Omega.{arith}
use lib.ListN.{length}
use Rattle.words.proofs.Writing.{wrote-same}
use Rattle.text.proofs.Lines.{refused-line}
use Rattle.text.proofs.put_refused.Goals as goal

pub put_line_at-requires : goal.put_line_at-requires
put_line_at-requires c = omega (arith, ap length (refused-line c.args.number c.args.place))

pub returns : goal.returns
returns c = wrote-same (refused-line c.args.number c.args.place) c.put_line_at.ensures

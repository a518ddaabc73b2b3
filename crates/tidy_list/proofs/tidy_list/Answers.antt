-- `tidy_list::tidy_list` writes 60 for an input at fault, else the text of its sections. Assumes nothing.
use native.Mathlib.Omega.{arith}
use Rattle.text.proofs.Lines.{refused-bound}
use Rattle.tidy_list.proofs.Lists.{faulty-wrote}
use Rattle.tidy_list.proofs.tidy_list.Goals as goal

pub put_refusal-requires : goal.put_refusal-requires
put_refusal-requires c = omega (arith, refused-bound 60 0)

pub returns-in-None-clause-writes : goal.returns-in-None-clause-writes
returns-in-None-clause-writes c = faulty-wrote c.args.input.now c.in-None.ensures.reads c.put_refusal.ensures

-- `bags::zero_span` meets its contract. Assumes nothing.
use mathlib.Core.Path.{sym}
use native.Mathlib.Omega.{arith}
use Rattle.bags.specs.Span.{view}
use Rattle.bags.proofs.Spans.{zero-from, zero-only}
use Rattle.bags.proofs.zero_span.Goals as goal

pub returns-then-low-eq0-clause-view : goal.returns-then-low-eq0-clause-view
unfolding view
returns-then-low-eq0-clause-view c = λ high. sym (zero-from c.args.low high (omega arith))

pub returns-clause-view : goal.returns-clause-view
unfolding view
returns-clause-view c = λ high. sym (zero-only c.args.low high (omega arith))

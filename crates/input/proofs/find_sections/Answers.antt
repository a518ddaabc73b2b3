-- `input::find_sections` finds the front of the input, and that nothing follows it. Assumes nothing.
use native.Mathlib.Omega.{arith}
use Rattle.input.proofs.Inputs.{reads-faulty, reads-going-on, reads-front}
use Rattle.input.proofs.find_sections.Goals as goal

pub returns-in_err-sections-clause-reads : goal.returns-in_err-sections-clause-reads
returns-in_err-sections-clause-reads c =
    rw c.from_residual.ensures (reads-faulty _ c.in_err-sections.ensures.reads)

pub returns-then-end-bytes-clause-reads : goal.returns-then-end-bytes-clause-reads
returns-then-end-bytes-clause-reads c =
    reads-going-on _ c.in_ok-sections.ensures.reads (omega (arith, c.in_ok-sections.ensures.inside.end))

pub returns-clause-reads : goal.returns-clause-reads
returns-clause-reads c =
    reads-front _ c.in_ok-sections.ensures.reads (omega (arith, c.in_ok-sections.ensures.inside.end))

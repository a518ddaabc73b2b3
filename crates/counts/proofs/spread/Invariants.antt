-- `spread` meets its contract. The invariant is `Spreading` of proofs/Spreading.
-- Assumes nothing.
use Rattle.counts.proofs.Spreading.{Spreading}
use Rattle.counts.proofs.spread.Given as goal

abbrev pub invariant-loop-k : goal.invariant-loop-k
invariant-loop-k l = Spreading l.counts l.kinds l.labels l.k

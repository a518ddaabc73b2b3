-- `spread` meets its contract. The invariant is `Spreading` of proofs/Spreading.
-- Assumes nothing.
use native.Mathlib.Omega.{arith}
use lib.ListN.{length-set}
use Rattle.counts.proofs.Spreading.{spreading-start, spreading-next, spreading-end}
use Rattle.counts.proofs.spread.Goals as goal

pub loop-k-init : goal.loop-k-init
loop-k-init c = spreading-start _ _ _ c.requires.zeros

pub bounds-labels-k-in-loop-k : goal.bounds-labels-k-in-loop-k
bounds-labels-k-in-loop-k c = simp length-set (omega arith)

pub loop-k-preserved : goal.loop-k-preserved
loop-k-preserved c = spreading-next _ _ _ _ (omega arith) (omega arith) c.loop-k.invariant

pub returns : goal.returns
returns c = spreading-end _ _ (omega arith) (omega arith) _ _ (omega arith) c.loop-k.invariant

-- `links::chain` chains the links: after i turns those below i.
-- Assumes nothing.
use mathlib.Core.Path.{refl}
use native.Mathlib.Omega.{arith}
use lib.ListN.{length-set}
use Rattle.script.specs.Link.{to_at}
use Rattle.words.proofs.Chains.{chained-none, chained_more}
use Rattle.links.proofs.index.chain.Goals as goal

pub loop-i-init : goal.loop-i-init
loop-i-init c = record { chained = chained-none _ _ _ c.requires.blank.zeros; sizes = (refl, refl) }

pub loop-i-preserved : goal.loop-i-preserved
unfolding to_at
loop-i-preserved c =
    let (firsts, nexts) = c.loop-i.invariant.sizes in
    let card-in = c.requires.cards c.loop-i.i (omega arith) in record {
      chained = chained_more _ _ _ _ _ c.loop-i.invariant.chained c.from-to.ensures (omega (arith, card-in)) (omega
          arith);
      sizes = (simp length-set firsts, simp length-set nexts);
    }

-- `pairs::chain_arrivals` chains the links to each card, in arrays that keep their lengths. Assumes nothing.
use native.Mathlib.Omega.{arith}
use Rattle.pairs.proofs.chain_arrivals.Goals as goal

pub returns : goal.returns
returns c =
    let left = c.chain.ensures in
    let asked = c.requires in
    record {
      arriving = record {
        cards-in = omega (arith, left.sizes.0, asked.few-cards);
        links-in = omega (arith, left.sizes.1, asked.chaining.blank.room);
        chained = rw (← c.from.ensures) left.chained;
      };
      heads = omega (arith, left.sizes.0);
      nexts = omega (arith, left.sizes.1);
    }

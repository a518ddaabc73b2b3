-- `links::link_starts` fills the table of starts: after c turns the cards below c have theirs.
-- Assumes nothing.
use native.Mathlib.Omega.{arith}
use lib.ListN.{length-set}
use Rattle.script.specs.Link.{below}
use Rattle.words.proofs.Cells.{cells-more}
use Rattle.script.proofs.Order.{starts-rise}
use Rattle.script.proofs.Cards.{below-le, below-rises}
use Rattle.links.proofs.index.link_starts.Goals as goal

pub overflow_cast-starts : goal.overflow_cast-starts
overflow_cast-starts c =
    omega (arith, below-le c.args.script.now c.loop-c.c c.args.links, c.requires.ascending.few)

pub loop-c-preserved : goal.loop-c-preserved
loop-c-preserved c =
    let rise = starts-rise _ _ c.requires.ascending in (
      omega (arith, c.skip_below-i.ensures, below-rises c.args.script.now c.args.links rise c.loop-c.c),
      simp length-set c.loop-c.invariant.1,
      cells-more (λ k. below c.args.script.now k c.args.links) c.loop-c.starts c.loop-c.c
          c.skip_below-i.result (omega arith) c.skip_below-i.ensures c.loop-c.invariant.2,
    )

-- `links::skip_below` walks to the first link that does not start below the card: no link before i does not.
-- Assumes nothing.
use mathlib.Core.Logic.{⊎_elim}
use native.Mathlib.Omega.{arith}
use Rattle.words.proofs.Bools.{le-or-lt}
use Rattle.script.specs.Link.{from_at, below}
use Rattle.script.proofs.Order.{starts-rise}
use Rattle.script.proofs.Cards.{below-le, below-low, below-high}
use Rattle.links.proofs.index.skip_below.Goals as goal

pub returns-then-card-from : goal.returns-then-card-from
unfolding from_at
returns-then-card-from c =
    let rise = starts-rise _ _ c.requires.ascending in
    ⊎_elim (λ h. omega arith) (λ h. absurd (omega (arith, below-low _ _ rise c.args.card c.loop-i.i h)))
    (le-or-lt (below c.args.script.now c.args.card c.args.links) c.loop-i.i)

pub loop-i-preserved : goal.loop-i-preserved
unfolding from_at
loop-i-preserved c =
    let rise = starts-rise _ _ c.requires.ascending in
    ⊎_elim
    (λ h. absurd (omega (arith, below-high _ _ rise c.args.card c.loop-i.i h (omega arith))))
    (λ h. omega arith)
    (le-or-lt (below c.args.script.now c.args.card c.args.links) c.loop-i.i)

pub returns : goal.returns
returns c =
    omega (arith, below-le c.args.script.now c.args.card c.args.links)

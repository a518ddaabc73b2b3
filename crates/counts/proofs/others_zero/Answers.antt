-- `others_zero` meets its contract. The invariant: the kinds passed are named or count 0. Assumes nothing.
use borrow.Author.Tests.{eqb-true}
use lib.ListN.{get_or}
use native.Mathlib.Omega.{arith}
use borrow.Author.Count.{below_more}
use mathlib.Core.Path.{sym}
use mathlib.Core.Logic.{⊎_elim}
use Rattle.bags.specs.Bag.{count}
use Rattle.bags.proofs.Decide.{Passes, others-all}
use Rattle.evaluator.proofs.Testing.{others-named, others-zero, others-not}
use Rattle.counts.proofs.others_zero.Goals as goal

pub loop-i-init : goal.loop-i-init
loop-i-init c p h k l = absurd (omega arith)

pub returns-then-row-i-eq0 : goal.returns-then-row-i-eq0
returns-then-row-i-eq0 c p h =
    let start = c.args in
    let i = c.loop-i.i in
    others-not p (count start.counts.now) i _ (h i (omega arith)) c.if-counts-i-ne0.true
    (eqb-true (get_or start.row.now i 0) 0 c.if-row-i-eq0.true-raw) start.kinds (omega arith)

pub loop-i-preserved : goal.loop-i-preserved
loop-i-preserved c p h =
    let i = c.loop-i.i in
    let w = count c.args.counts.now in
    below_more (Passes p w) i (c.loop-i.invariant p h)
    (⊎_elim
    (λ named. others-named p w i _ (h i (omega arith)) named.if-row-i-eq0.false)
    (λ zero. others-zero p w i _ (h i (omega arith)) zero.if-counts-i-ne0.false)
    c.else-counts-i-ne0.branch-raw)

pub returns : goal.returns
returns c p h =
    let start = c.args in
    sym (others-all p (count start.counts.now) start.kinds (λ k l. c.loop-i.invariant p h k (omega arith)))

-- `links::mark_linked` marks cards: before link i the marks are those of the links below i. Assumes nothing.
use Prim.Native.Nat.{ℕ}
use mathlib.Core.Path.{ap, ◌∙◌}
use native.Mathlib.Omega.{arith}
use lib.ListN.{length, length-replicate}
use Rattle.script.specs.Link.{from_at, to_at}
use Rattle.links.proofs.Marks.{marked-none, marked_more}
use Rattle.links.proofs.mark.mark_linked.Goals as goal

pub loop-i-init : goal.loop-i-init
loop-i-init c = marked-none _ c.fill.new.grid (length c.args.linked.now) c.fill.ensures

pub loop-i-preserved : goal.loop-i-preserved
unfolding from_at to_at
loop-i-preserved c =
    let i = c.loop-i.i in
    let marked = c.loop-i.invariant in
    let lent = marked.size ∙ ap length c.fill.ensures ∙ length-replicate {A = ℕ} (length c.args.linked.now) 0 in
    let from_in = c.requires.from_in i (omega arith) in
    let to_in = c.requires.to_in i (omega arith) in
    marked_more _ c.loop-i.linked i _ c.from-from.result c.from-to.result c.from-from.ensures c.from-to.ensures
    (omega (arith, from_in, lent)) (omega (arith, to_in, lent)) marked

-- `sheet::names_incoming` meets its contract. The invariant: the rows before t have no incoming entry. Assumes nothing.
use Prim.Native.Nat.{◌+◌, ◌-◌, ◌*◌}
use mathlib.Core.Path.{refl}
use native.Mathlib.Omega.{arith}
use borrow.Rule.Slice.PartMut.{mid_len}
use Rattle.words.specs.Limits.{max_kinds, max_labels}
use Rattle.words.proofs.Bools.{never_both}
use Rattle.sheet.proofs.Ways.{none-outgoing, more-outgoing}
use Rattle.sheet.proofs.names_incoming.Goals as goal

pub loop-t-init : goal.loop-t-init
loop-t-init c = none-outgoing c.args.names.now c.args.kinds

pub returns-then-some_named : goal.returns-then-some_named
returns-then-some_named c e = never_both refl e

pub loop-t-preserved : goal.loop-t-preserved
loop-t-preserved c =
    let names = c.args.names.now in
    let base = c.loop-t.t * max_labels + max_kinds in
    let size = mid_len base (base + c.args.kinds) names (omega arith) in
    more-outgoing names c.args.kinds c.loop-t.t base (base + c.args.kinds - base) refl (omega arith)
    (λ k h. c.some_named.ensures c.if-some_named.false k (omega (arith, size))) c.loop-t.invariant

pub returns : goal.returns
returns c e t k lt lk = c.loop-t.invariant t k (omega arith) lk

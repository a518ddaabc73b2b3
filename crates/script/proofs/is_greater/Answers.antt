-- `script::is_greater` compares two links: a law of proofs/Order for each answer.
-- Assumes nothing.
use native.Mathlib.Omega.{arith}
use Rattle.script.specs.Link.{from_at, kind_at, to_at}
use Rattle.script.proofs.Order.{greater-by-from, greater-by-kind, greater-by-to}
use Rattle.script.proofs.is_greater.Goals as goal

pub returns-then-from-other_from : goal.returns-then-from-other_from
unfolding from_at
returns-then-from-other_from c = greater-by-from _ _ _ c.if-from-other_from.true

pub returns-then-kind-other_kind : goal.returns-then-kind-other_kind
unfolding from_at kind_at
returns-then-kind-other_kind c = greater-by-kind _ _ _ (omega arith) c.if-kind-other_kind.true

pub returns : goal.returns
unfolding from_at kind_at to_at
returns c = greater-by-to _ _ _ (omega arith) (omega arith)

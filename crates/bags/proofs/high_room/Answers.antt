-- `bags::high_room` meets its contract: the last arm, where there is a limit above 0. Assumes nothing.
use mathlib.Core.Path.{◌≡◌, refl, sym, ap, ◌∙◌}
use native.Mathlib.Omega.{arith}
use Rattle.std.specs.Int.{div_ceil}
use Rattle.bags.specs.Interval.{from, high_room}
use Rattle.bags.proofs.Spans.{view-from, limit-some, high-some}
use Rattle.bags.proofs.high_room.Goals as goal

pub returns-in_default-clause-view : goal.returns-in_default-clause-view
returns-in_default-clause-view c =
    let a = c.args in
    let lo : c.from-in_default.result ≡ div_ceil a.count a.high = c.from-in_default.ensures ∙ c.div_ceil.ensures in
    view-from _ (omega arith) refl ∙ ap from lo
    ∙ sym (ap (high_room a.count) (limit-some a.high (omega arith)) ∙ high-some a.count a.high (omega arith))

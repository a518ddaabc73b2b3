-- `join_zero` meets its contract. Assumes nothing.
use Prim.Native.Nat.{◌+◌}
use mathlib.Core.Path.{sym, ap, ◌∙◌}
use native.Mathlib.Omega.{arith}
use Rattle.bags.specs.Interval.{meet, link_interval}
use Rattle.bags.specs.Span.{view}
use Rattle.bags.proofs.Spans.{add-small-left, add-small-right}
use Rattle.joins.proofs.Joined.{joined-all, zero-free, zero-alone}
use Rattle.joins.proofs.join_zero.Goals as goal

pub returns-then-code-ne16 : goal.returns-then-code-ne16
returns-then-code-ne16 c =
    let a = c.args in
    let zero = c.zero_span.ensures.view in
    let none = c.zero_span.ensures.small in
    let met = c.meet_span.ensures.view in
    let small = c.meet_span.ensures.small in
    λ high. record {
      span = met ∙ ap (meet (view a.x)) (zero high)
          ∙ sym (joined-all a.code (view a.x) (link_interval 0 a.low high) c.if-code-ne16.true);
      small = λ n x. small (n + 0) (add-small-left n 0 a.x x) (add-small-right n 0 _ none);
    }

pub returns-then-low-eq0 : goal.returns-then-low-eq0
returns-then-low-eq0 c =
    let a = c.args in
    let freed = c.wrap_span.ensures.view in
    let small = c.wrap_span.ensures.small in
    λ high. record {
      span = freed
          ∙ sym (zero-free a.code a.low (view a.x) high c.if-code-ne16.false (omega arith));
      small = λ n x. small (n + 0) (add-small-left n 0 a.x x);
    }

pub returns : goal.returns
returns c =
    let a = c.args in
    λ high. record {
      span = sym (zero-alone a.code a.low (view a.x) high c.if-code-ne16.false (omega arith));
      small = λ n x. add-small-left n 0 a.x x;
    }

-- `join_span` meets its contract. Assumes nothing.
use Prim.Native.Nat.{◌+◌}
use mathlib.Core.Path.{sym, ◌∙◌}
use Rattle.joins.proofs.Joined.{joined-choice, joined-all}
use Rattle.bags.specs.Span.{view}
use Rattle.bags.proofs.Spans.{add-small-left, add-small-right}
use Rattle.joins.proofs.join_span.Goals as goal

pub returns-then-code-eq16 : goal.returns-then-code-eq16
returns-then-code-eq16 c =
    let a = c.args in
    let sum = c.add_span.ensures.view in
    let small = c.add_span.ensures.small in
    λ n y. record {
      span = sum ∙ sym (joined-choice a.code (view a.x) (view a.y) c.if-code-eq16.true);
      small = λ m x. small m n x y;
    }

pub returns : goal.returns
returns c =
    let a = c.args in
    let met = c.meet_span.ensures.view in
    let small = c.meet_span.ensures.small in
    λ n y. record {
      span = met ∙ sym (joined-all a.code (view a.x) (view a.y) c.if-code-eq16.false);
      small = λ m x. small (m + n) (add-small-left m n a.x x) (add-small-right m n a.y y);
    }

-- What specs/SingleStrikes promises of pairs struck one at a time holds.
--   order-demand
-- Assumes nothing.
use Prim.Native.Nat.{ℕ}
use mathlib.Core.Path.{sym, ◌∙◌, subst}
use mathlib.Core.List.{List}
use Rattle.words.proofs.Readings.{accepted-same}
use Rattle.sheet.specs.Sheet.{Sheet}
use Rattle.typing.specs.Orders.{AnyOrder}
use Rattle.typing.proofs.Orders.{Promised, largest-any-order, both-any-order, desks-any-order}
use Rattle.demands.specs.Formed.{Formed}
use Rattle.demands.specs.SingleStrikes.{OrderDemand}
use Rattle.demands.proofs.Formed.{formed-sheet}

-- The sheet that was read is the one that is well-formed.
of-sheet : (template script : List ℕ) (s : Sheet) → Formed template script s → (grid : List ℕ) (struck : ℕ)
    → Promised template script grid struck → AnyOrder s grid struck
of-sheet template script s f grid struck (q, read, order) =
    subst (λ (x : Sheet). AnyOrder x grid struck) (accepted-same (sym read ∙ formed-sheet template script s f)) order

pub order-demand : OrderDemand
order-demand = record {
  largest = λ template script s f before large rounds struck bare x.
      of-sheet template script s f large struck
      (largest-any-order template script before large rounds struck bare x);
  both = λ template script s f bookings desk before after said rounds struck bare e x.
      of-sheet template script s f after.large struck
      (both-any-order template script bookings desk before after said rounds struck bare e x);
  desks = λ template script s f bookings before after said rounds struck bare e x.
      of-sheet template script s f after.large struck
      (desks-any-order template script bookings before after said rounds struck bare e x);
}

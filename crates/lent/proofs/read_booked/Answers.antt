-- `lent::read_booked` reads the sheet and then the bookings, of which there are not too many cards, as the script has
-- them. Assumes nothing.
use Prim.Native.Nat.{ℕ}
use mathlib.Core.Path.{sym}
use Rattle.std.proofs.lemmas.Result.{err_from_is_err_and}
use Rattle.bookings.specs.Bookings.{read_bookings}
use Rattle.lent.proofs.KnownSheet.{read}
use Rattle.lent.proofs.Readings.{list-refused}
use Rattle.lent.proofs.read_booked.Goals as goal

pub read_bookings-requires : goal.read_bookings-requires
read_bookings-requires c = (read c.in_ok-e.ensures).links.cards-bound

pub returns-in_err-count : goal.returns-in_err-count
returns-in_err-count c =
    let p = err_from_is_err_and c.from_residual-in_err-count.result c.from_residual-in_err-count.ensures.1 in
    rw (p.1, p.2)
    (list-refused (λ (cards shapes : ℕ). read_bookings cards shapes c.args.bookings.now) c.in_ok-e.ensures
    (sym c.in_err-count.ensures))

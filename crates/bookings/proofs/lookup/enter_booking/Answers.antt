-- `bookings::enter_booking` looks a booking up along the chain of its card. The invariant: what is below the booking
-- that it stands at decides.
-- Assumes nothing.
use mathlib.Core.Path.{◌≡◌, sym, ap, ◌∙◌}
use mathlib.Core.Logic.{⊎_elim}
use native.Mathlib.Omega.{arith}
use borrow.Author.Tests.{eqb-true, eqb-false}
use Rattle.words.proofs.Chains.{chain-falls, along-in, along-key}
use Rattle.bookings.specs.Bookings.{Booking, booking_at}
use Rattle.bookings.specs.Steps.{WordsIn}
use Rattle.bookings.proofs.Repeats.{booking-same, look-start, look-found, look-next, look_none}
use Rattle.bookings.proofs.Repeats.{entered-again, entered-new}
use Rattle.bookings.proofs.lookup.enter_booking.Invariants.{it}
use Rattle.bookings.proofs.lookup.enter_booking.Goals as goal
use Rattle.bookings.proofs.lookup.enter_booking.Goals.{In-Some, Joined-else-shape_at-shape}

-- the words of the booking that it stands at are in the list
words-here : (c : In-Some) → WordsIn 3 c.args.bookings.now c.in-Some.j
words-here c =
    let below = along-in c.loop-j.invariant.chain c.in-Some.ensures.steps.1 in
    record { few = omega (arith, below, c.requires.few); inside = omega (arith, below, c.requires.words) }

-- the booking that it stands at is another
other-here : (c : Joined-else-shape_at-shape) → let a = c.args in
    booking_at a.bookings.now c.in-Some.j ≡ it a.desk a.card.0 a.shape.0 → ⊥
other-here c e =
    let shape-is = ap (λ (b : Booking). b.shape) e in
    let desk-is = ap (λ (b : Booking). b.desk) e in
    ⊎_elim
    (λ w. absurd (eqb-false _ _ w.if-desk_at-desk.false-raw (w.desk_at.ensures ∙ desk-is)))
    (λ w. omega (arith, shape-is, c.shape_at.ensures, w.if-shape_at-shape.false))
    c.else-shape_at-shape.branch-raw

pub new-j-items-requires : goal.new-j-items-requires
new-j-items-requires c =
    rw (c.from-n.ensures) (chain-falls c.requires.chained c.requires.card-in (omega (arith, c.requires.room)))

pub loop-j-init : goal.loop-j-init
loop-j-init c =
    rw (
      c.into_iter-j-iterator.ensures.into_iter_gives,
      c.new-j-items.ensures.at,
      c.new-j-items.ensures.next,
      c.from-n.ensures,
    )
    (look-start _ (it c.args.desk c.args.card.0 c.args.shape.0) c.requires.chained c.requires.card-in)

pub shape_at-requires : goal.shape_at-requires
shape_at-requires c = words-here c

pub desk_at-requires : goal.desk_at-requires
desk_at-requires c = words-here (goal.at.desk_at-requires c).In-Some

pub returns-then-desk_at-desk : goal.returns-then-desk_at-desk
returns-then-desk_at-desk c =
    let step = c.in-Some.ensures.steps.1 in
    entered-again c.requires (look-found c.loop-j.invariant step (booking-same
    (sym c.desk_at.ensures ∙ eqb-true _ _ c.if-desk_at-desk.true-raw) (along-key c.loop-j.invariant.chain step)
    (omega (arith, c.shape_at.ensures, c.if-shape_at-shape.true))))

pub loop-j-preserved : goal.loop-j-preserved
loop-j-preserved c =
    look-next c.loop-j.invariant c.in-Some.ensures.steps.1 (other-here (goal.at.loop-j-preserved
    c).Joined-else-shape_at-shape)

pub returns : goal.returns
returns c =
    rw (c.from-n.ensures) (entered-new c.requires (look_none c.loop-j.invariant c.in-None.ensures.steps.0))

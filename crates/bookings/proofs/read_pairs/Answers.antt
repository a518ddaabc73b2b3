-- `bookings::read_pairs` reads the bookings one by one: before booking i the reading from there on is the whole
-- reading, and those before it are chained by their cards. Assumes nothing.
use Prim.Native.Nat.{◌-◌}
use mathlib.Core.Path.{◌≡◌, refl, sym, ap, ◌∙◌}
use native.Mathlib.Omega.{arith}
use lib.ListN.{get_or-replicate}
use Rattle.words.specs.Reading.{turned_down}
use Rattle.words.specs.Limits.{max_cards}
use Rattle.words.proofs.Chains.{chained-none}
use Rattle.bookings.specs.Bookings.{card_at, booking_at, repeated}
use Rattle.bookings.proofs.Repeats.{booking-same, told-repeated}
use Rattle.bookings.proofs.Reading.{each_next, each-end, rule-desk, rule-card, rule-shape, rule-repeat}
use Rattle.bookings.proofs.Reading.{rule-passed}
use Rattle.bookings.proofs.read_pairs.Goals as goal
use Rattle.bookings.proofs.read_pairs.Goals.{After-next-in-loop-i-1}

-- the look-up tells whether booking i is a repeat
told : (c : After-next-in-loop-i-1) → repeated (booking_at c.args.bookings.now) c.loop-i.i ≡ c.enter_booking.result
told c =
    told-repeated _ _ _ _ (booking-same c.desk_at-desk.ensures c.card_at-card.ensures
    c.shape_at-shape.ensures) c.enter_booking.ensures.told

pub loop-i-init : goal.loop-i-init
loop-i-init c =
    let e : c.from-pairs.result - 0 ≡ c.args.count = omega arith in
    record {
      within = omega arith;
      heads = refl;
      links = refl;
      chained = chained-none _ _ _ (λ m l. get_or-replicate max_cards m 0 0 l);
      rest = rw e refl;
    }

pub returns-then-desk-gt1 : goal.returns-then-desk-gt1
returns-then-desk-gt1 c =
    let desk-here = c.desk_at-desk.ensures in
    ap (turned_down 66) c.desk_index.ensures
    ∙ sym (c.loop-i.invariant.rest ∙ each_next _ _ _ _ (omega arith) ∙ rule-desk _ _ _ _ _ (omega (arith, desk-here)))

pub returns-then-cards-card : goal.returns-then-cards-card
returns-then-cards-card c =
    ap (turned_down 32) c.card_index.ensures
    ∙ sym (c.loop-i.invariant.rest ∙ each_next _ _ _ _ (omega arith)
    ∙ rule-card _ _ _ _ _ (omega (arith, c.desk_at-desk.ensures))
    (omega (arith, c.card_at-card.ensures)))

pub returns-then-shapes-shape : goal.returns-then-shapes-shape
returns-then-shapes-shape c =
    ap (turned_down 33) c.shape_index.ensures
    ∙ sym (c.loop-i.invariant.rest ∙ each_next _ _ _ _ (omega arith)
    ∙ rule-shape _ _ _ _ _ (omega (arith, c.desk_at-desk.ensures))
    (omega (arith, c.card_at-card.ensures)) (omega (arith, c.shape_at-shape.ensures)))

pub returns-then-enter_booking : goal.returns-then-enter_booking
returns-then-enter_booking c =
    ap (turned_down 65) c.card_index-then-enter_booking.ensures
    ∙ sym (c.loop-i.invariant.rest ∙ each_next _ _ _ _ (omega arith)
    ∙ rule-repeat _ _ _ _ _ (omega (arith, c.desk_at-desk.ensures))
    (omega (arith, c.card_at-card.ensures)) (omega (arith, c.shape_at-shape.ensures))
    (told (goal.at.returns-then-enter_booking c).After-next-in-loop-i-1 ∙ c.if-enter_booking.true))

pub loop-i-preserved : goal.loop-i-preserved
loop-i-preserved c =
    let e = c.enter_booking.ensures in
    let new = c.if-enter_booking.false in
    let card-here = c.card_at-card.ensures in
    record {
      within = omega arith;
      heads = e.heads ∙ c.loop-i.invariant.heads;
      links = e.links ∙ c.loop-i.invariant.links;
      chained = e.more new (card_at c.args.bookings.now) (λ j h. refl) (sym card-here);
      rest = c.loop-i.invariant.rest ∙ each_next _ _ _ _ (omega arith)
          ∙ rule-passed _ _ _ _ _ (omega (arith, c.desk_at-desk.ensures)) (omega (arith, card-here))
          (omega (arith, c.shape_at-shape.ensures)) (told (goal.at.loop-i-preserved c).After-next-in-loop-i-1 ∙ new);
    }

pub returns : goal.returns
returns c = sym (c.loop-i.invariant.rest ∙ each-end _ _ _ _ (omega arith))

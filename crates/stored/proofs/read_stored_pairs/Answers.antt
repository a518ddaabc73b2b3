-- `stored::read_stored_pairs` reads the bookings one by one: before booking i the reading from there on is the whole
-- reading. Assumes nothing.
use Prim.Native.Nat.{◌-◌}
use mathlib.Core.Path.{◌≡◌, refl, sym, ◌∙◌}
use native.Mathlib.Omega.{arith}
use Rattle.bookings.proofs.Accepted.{words-in}
use Rattle.bookings.proofs.Reading.{each_next, each-end}
use Rattle.stored.proofs.StoredLists.{stored-card, stored-shape, stored-passed}
use Rattle.stored.proofs.read_stored_pairs.Goals as goal

pub loop-i-init : goal.loop-i-init
loop-i-init c =
    let e : c.from-pairs.result - 0 ≡ c.args.count = omega arith in
    record { within = omega arith; rest = rw e refl }

pub stored_card_at-requires : goal.stored_card_at-requires
stored_card_at-requires c = words-in c.requires (omega arith)

pub returns-then-cards-stored_card_at : goal.returns-then-cards-stored_card_at
returns-then-cards-stored_card_at c =
    let card-here = c.stored_card_at.ensures in
    sym (c.loop-i.invariant.rest ∙ each_next _ _ _ _ (omega arith) ∙ stored-card _ _ _ _ _ (omega (arith, card-here)))

pub stored_shape_at-requires : goal.stored_shape_at-requires
stored_shape_at-requires c =
    words-in c.requires (omega arith)

pub returns-then-shapes-stored_shape_at : goal.returns-then-shapes-stored_shape_at
returns-then-shapes-stored_shape_at c =
    let card-here = c.stored_card_at.ensures in
    let shape-here = c.stored_shape_at.ensures in
    sym (c.loop-i.invariant.rest ∙ each_next _ _ _ _ (omega arith)
    ∙ stored-shape _ _ _ _ _ (omega (arith, card-here)) (omega (arith, shape-here)))

pub loop-i-preserved : goal.loop-i-preserved
loop-i-preserved c =
    let card-here = c.stored_card_at.ensures in
    let shape-here = c.stored_shape_at.ensures in
    record {
      within = omega arith;
      rest = c.loop-i.invariant.rest ∙ each_next _ _ _ _ (omega arith)
          ∙ stored-passed _ _ _ _ _ (omega (arith, card-here)) (omega (arith, shape-here));
    }

pub returns : goal.returns
returns c = sym (c.loop-i.invariant.rest ∙ each-end _ _ _ _ (omega arith))

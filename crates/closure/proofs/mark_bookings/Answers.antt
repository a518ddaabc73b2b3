-- `closure::mark_bookings` turns the pairs of a desk's bookings off. The invariant: those of the first `i` bookings are
-- off, and no others. Assumes nothing.
use mathlib.Core.Path.{◌∙◌, ◌≡◌, ap, refl, subst}
use Prim.Native.Nat.{◌*◌, ◌+◌, ◌<◌, ℕ}
use native.Mathlib.Omega.{arith}
use lib.ListN.{length, set, length-set}
use Rattle.words.proofs.Places.{place_in}
use Rattle.bookings.specs.Bookings.{desk_at, card_at, shape_at}
use Rattle.closure.specs.Closing.{Marked}
use Rattle.closure.proofs.Marks.{marked_more, marked_other, marked-none}
use Rattle.closure.proofs.mark_bookings.Goals as goal
use Rattle.closure.proofs.mark_bookings.Goals.{then-desk_at-desk, else-desk_at-desk}
use Rattle.closure.proofs.mark_bookings.Goals.{After-desk_at, After-pair_place}

pub loop-i-init : goal.loop-i-init
loop-i-init c =
    let bookings = c.args.bookings.now in
    (refl, marked-none bookings c.args.desk c.args.shapes c.args.grid.now c.requires.ones)

-- what a booking of the desk leaves
marked-here : (a : After-desk_at) (place : ℕ) → desk_at a.args.bookings.now a.loop-i.i ≡ a.args.desk
    → place ≡ card_at a.args.bookings.now a.loop-i.i * a.args.shapes + shape_at a.args.bookings.now a.loop-i.i
    → let left = set a.loop-i.grid place 0 in
    (length left ≡ length a.args.grid.now)
    × Marked a.args.bookings.now a.args.desk a.args.shapes (a.loop-i.i + 1) left
marked-here a place ours is =
    let i = a.loop-i.i in
    let bookings = a.args.bookings.now in
    let (card, shape) = a.requires.booked-in i (omega arith) in
    let low : place < length a.loop-i.grid =
    omega (
      arith,
      is,
      place_in a.args.cards a.args.shapes (card_at bookings i) (shape_at bookings i) card shape,
      a.loop-i.invariant.0,
      a.requires.full,
    ) in (
      length-set a.loop-i.grid place 0 ∙ a.loop-i.invariant.0,
      marked_more place a.loop-i.invariant.1 ours is low,
    )

pub loop-i-preserved : goal.loop-i-preserved
loop-i-preserved c =
    let a = (goal.at.loop-i-preserved c).After-desk_at in
    let bookings = c.args.bookings.now in
    elim c.if-desk_at-desk.branch [
      | then-desk_at-desk w ↦
          let ours : desk_at bookings c.loop-i.i ≡ c.args.desk = omega
          (arith, c.desk_at.ensures, w.if-desk_at-desk.true) in
          let is = w.pair_place.ensures
          ∙ ap (λ (n : ℕ). n * c.args.shapes + w.shape_at-shape.result.0) w.card_at-card.ensures
          ∙ ap (λ (t : ℕ). card_at bookings c.loop-i.i * c.args.shapes + t) w.shape_at-shape.ensures in
          let (long, marked) = marked-here a w.pair_place.result ours is in
          rw w.grid-is (long, marked)
      | else-desk_at-desk w ↦ rw w.grid-is (
        c.loop-i.invariant.0,
        marked_other c.loop-i.invariant.1 (λ e. absurd (omega (arith, e, c.desk_at.ensures, w.if-desk_at-desk.false))),
      )
    ]

pub returns : goal.returns
returns c =
    let all-bookings : c.loop-i.i ≡ c.args.count = omega arith in
    let MarkedTo : ℕ → Type 0 =
    λ k. Marked c.args.bookings.now c.args.desk c.args.shapes k c.loop-i.grid in
    (subst MarkedTo all-bookings c.loop-i.invariant.1, c.loop-i.invariant.0)

-- `stored::tidy` writes the first booking of each pair: before booking i those of the bookings before it stand in the
-- buffer, chained by their cards. Assumes nothing.
use Prim.Native.Nat.{◌≤◌, ◌<◌}
use mathlib.Core.Path.{◌≡◌, refl, subst, ◌∙◌}
use mathlib.Core.Logic.{⊎_elim}
use native.Mathlib.Omega.{arith}
use lib.ListN.{length, get_or, set, length-set, get_or-replicate}
use Rattle.words.specs.Limits.{max_cards}
use Rattle.words.proofs.Bools.{false_of_not, true_of_not}
use Rattle.words.proofs.Writing.{wrote-length}
use Rattle.bookings.specs.Bookings.{shape_index}
use Rattle.bookings.proofs.Repeats.{booking-same}
use Rattle.bookings.proofs.Accepted.{words-in}
use Rattle.stored.proofs.Keeping.{Keeping, keeping_start, keeping-again, keeping-new, keeping-end}
use Rattle.stored.proofs.tidying.tidy.Goals as goal
use Rattle.stored.proofs.tidying.tidy.Goals.{At-loop-i, Start}

-- the buffer has a word, and keeps its length
some_word : (s : Start) → 1 ≤ length s.args.out.now
some_word s = omega (arith, s.requires.room)

-- it has room for one booking more
room-left : (l : At-loop-i) → l.loop-i.i < l.from-pairs.result
    → shape_index l.loop-i.kept < length l.loop-i.out
room-left l below =
    omega (
      arith,
      below,
      l.from-pairs.ensures,
      l.loop-i.invariant.few,
      wrote-length l.loop-i.invariant.keeping.wrote,
      l.requires.room,
    )

pub loop-i-init : goal.loop-i-init
loop-i-init c =
    record {
      within = omega arith;
      few = omega arith;
      heads = refl;
      links = refl;
      keeping = keeping_start _ _ _ _ (some_word (goal.at.loop-i-init c).Start) (λ m l. get_or-replicate max_cards
          m 0 0 l);
    }

pub stored_card_at-card-requires : goal.stored_card_at-card-requires
stored_card_at-card-requires c = words-in c.requires.sized (omega arith)

pub stored_shape_at-shape-requires : goal.stored_shape_at-shape-requires
stored_shape_at-shape-requires c = words-in c.requires.sized (omega arith)

pub enter_booking-requires : goal.enter_booking-requires
enter_booking-requires c =
    let card-here = c.stored_card_at-card.ensures in
    let card-in = c.requires.cards c.loop-i.i (omega arith) in
    record {
      chained = c.loop-i.invariant.keeping.chained;
      words = omega (arith, room-left (goal.at.enter_booking-requires c).At-loop-i (omega arith));
      few = omega (arith, c.requires.sized.few);
      room = omega (arith, c.requires.sized.few, c.loop-i.invariant.links);
      card-in = omega (arith, card-in, card-here, c.loop-i.invariant.heads);
    }

pub bounds-out-desk_index : goal.bounds-out-desk_index
bounds-out-desk_index c =
    omega (arith, c.desk_index.ensures, room-left (goal.at.bounds-out-desk_index c).At-loop-i (omega arith))

pub bounds-out-card_index : goal.bounds-out-card_index
bounds-out-card_index c =
    omega (
      arith,
      c.card_index.ensures,
      room-left (goal.at.bounds-out-card_index c).At-loop-i (omega arith),
      length-set c.loop-i.out c.desk_index.result 0,
    )

pub bounds-out-shape_index : goal.bounds-out-shape_index
bounds-out-shape_index c =
    let desk = c.desk_index.result in
    let card = c.stored_card_at-card.result.0 in
    omega (
      arith,
      c.shape_index.ensures,
      room-left (goal.at.bounds-out-shape_index c).At-loop-i (omega arith),
      length-set c.loop-i.out desk 0,
      length-set (set c.loop-i.out desk 0) c.card_index.result card,
    )

pub loop-i-preserved : goal.loop-i-preserved
loop-i-preserved c =
    let card-here = c.stored_card_at-card.ensures in
    let shape-here = c.stored_shape_at-shape.ensures in
    let e = c.enter_booking.ensures in
    let w = c.loop-i.invariant.keeping in
    let heads = e.heads ∙ c.loop-i.invariant.heads in
    let links = e.links ∙ c.loop-i.invariant.links in
    ⊎_elim
    (λ v. rw (v.out-is, v.kept-is, v.desk_index.ensures, v.card_index.ensures, v.shape_index.ensures) (record {
      within = omega arith;
      few = omega arith;
      heads = heads;
      links = links;
      keeping = keeping-new (some_word (goal.at.loop-i-preserved c).Start) w (booking-same refl card-here
          shape-here) e (false_of_not v.if-not-enter_booking.true-raw)
          (room-left (goal.at.loop-i-preserved c).At-loop-i (omega arith));
    }))
    (λ v. rw (v.out-is, v.kept-is) (record {
      within = omega arith;
      few = omega arith;
      heads = heads;
      links = links;
      keeping = keeping-again (some_word (goal.at.loop-i-preserved c).Start) w (booking-same refl card-here
          shape-here) e (true_of_not v.if-not-enter_booking.false-raw);
    }))
    c.if-not-enter_booking.branch-raw

pub bounds-out-0 : goal.bounds-out-0
bounds-out-0 c =
    omega (arith, some_word (goal.at.bounds-out-0 c).Start, wrote-length c.loop-i.invariant.keeping.wrote)

pub shape_of-out : goal.shape_of-out
shape_of-out c =
    length-set c.loop-i.out 0 _ ∙ wrote-length c.loop-i.invariant.keeping.wrote

pub returns : goal.returns
returns c =
    let all : c.loop-i.i ≡ get_or c.args.bookings.now 0 0 = omega (arith, c.requires.counted) in
    rw c.desk_index-2.ensures (keeping-end _ (some_word (goal.at.returns c).Start) (subst
    (Keeping _ _ _ c.loop-i.first c.loop-i.next c.loop-i.kept) all c.loop-i.invariant.keeping))

-- `flood::flood_from` leaves the closure of what was queued. Assumes nothing.
use mathlib.Core.Path.{subst, sym, ◌∙◌}
use Prim.Native.Nat.{ℕ, ◌<◌, ◌≤◌, ◌*◌}
use native.Mathlib.Omega.{arith}
use lib.ListN.{length, get_or}
use Rattle.words.specs.Sizes.{max_grid}
use Rattle.board.specs.Work.{work, entry, Queued, Swept}
use Rattle.board.proofs.Flooding.{Flooding, flood-start, queued-inside, flood-tail, flood-head, flood-room}
use Rattle.board.proofs.Flooding.{flood-turn, flood-done}
use Rattle.typing.specs.Needs.{Needs, board_of}
use Rattle.typing.proofs.Boards.{pairs-bound, board-inside, needs-in}
use Rattle.walks.proofs.Cards.{card-last}
use Rattle.flood.proofs.Followed.{led-asked, followed}
use Rattle.flood.proofs.flood_from.Goals as goal
use Rattle.flood.proofs.flood_from.Goals.{After-at-q, At-loop-head}

-- the invariant for one grid of fits
Now : (l : At-loop-head)
    → Flooding (board_of l.args.walk.now.script.now l.args.walk.now.names.now l.args.walk.now.shapes l.args.grid.now)
    (Queued (entry l.args.queue.now.places.now) l.args.queue.now.len) (length l.args.queue.now.places.now)
    (work l.loop-head.grid l.loop-head.queue) l.loop-head.head
Now l = l.loop-head.invariant.1 l.args.grid.now

few-pairs : (l : At-loop-head) → get_or l.args.walk.now.script.now 0 0 * l.args.walk.now.shapes ≤ max_grid
few-pairs l = pairs-bound l.requires.links.ready

-- the queue has room for every pair
room-in : (l : At-loop-head)
    → get_or l.args.walk.now.script.now 0 0 * l.args.walk.now.shapes ≤ length l.args.queue.now.places.now
room-in l = omega (arith, l.requires.full, l.requires.room)

-- the pair that is read is one of the sheet
read-in : (a : After-at-q) → a.at-q.result < get_or a.args.walk.now.script.now 0 0 * a.args.walk.now.shapes
read-in a =
    omega (arith, a.at-q.ensures, flood-head (Now (goal.at.After-at-q a).At-loop-head) a.loop-head-test.true)

pub loop-head-init : goal.loop-head-init
loop-head-init c = (
  omega arith,
  λ fits. flood-start c.args.grid.now c.args.queue.now.places.now c.args.queue.now.len c.requires.full
      c.requires.listed,
)

pub at-q-requires : goal.at-q-requires
at-q-requires c =
    omega (
      arith,
      c.loop-head-test.true,
      flood-tail (Now (goal.at.at-q-requires c).At-loop-head),
      (Now (goal.at.at-q-requires c).At-loop-head).space,
      room-in (goal.at.at-q-requires c).At-loop-head,
    )

pub overflow_add-head : goal.overflow_add-head
overflow_add-head c =
    omega (
      arith,
      c.loop-head-test.true,
      flood-tail (Now (goal.at.overflow_add-head c).At-loop-head),
      few-pairs
          (goal.at.overflow_add-head c).At-loop-head,
    )

pub led_card-n-requires : goal.led_card-n-requires
led_card-n-requires c =
    let links = c.requires.links in
    led-asked links.ready (read-in (goal.at.led_card-n-requires c).After-at-q) c.reciprocal-factor.ensures
    c.loop-head.invariant.0 links.leaving

pub follow_pair-requires : goal.follow_pair-requires
follow_pair-requires c =
    record {
      links = c.requires.links;
      card = c.led_card-n.ensures;
      on-board = omega (
        arith,
        read-in (goal.at.follow_pair-requires c).After-at-q,
        (Now
            (goal.at.follow_pair-requires c).At-loop-head).full,
      );
      full = (Now (goal.at.follow_pair-requires c).At-loop-head).full;
      room = flood-room (Now (goal.at.follow_pair-requires c).At-loop-head) (room-in
          (goal.at.follow_pair-requires c).At-loop-head);
    }

pub overflow_add-head-in-loop-head : goal.overflow_add-head-in-loop-head
overflow_add-head-in-loop-head c =
    omega (
      arith,
      c.loop-head-test.true,
      flood-tail (Now (goal.at.overflow_add-head-in-loop-head c).At-loop-head),
      few-pairs (goal.at.overflow_add-head-in-loop-head c).At-loop-head,
    )

pub loop-head-smaller : goal.loop-head-smaller
loop-head-smaller c =
    omega (arith, c.loop-head-test.true, flood-tail (Now (goal.at.loop-head-smaller c).At-loop-head), c.requires.full)

pub loop-head-preserved : goal.loop-head-preserved
loop-head-preserved c =
    let ready = c.requires.links.ready in
    let q = get_or c.loop-head.queue.places.now c.loop-head.head 0 in
    let w = work c.loop-head.grid c.loop-head.queue in
    let v = work c.follow_pair.new.grid c.follow_pair.new.queue in
    let NeededBy = Needs c.args.walk.now.script.now c.args.walk.now.names.now c.args.walk.now.shapes in (
      card-last ready (read-in (goal.at.loop-head-preserved c).After-at-q) c.led_card-n.ensures,
      λ fits. flood-turn (c.loop-head.invariant.1 fits) (room-in (goal.at.loop-head-preserved c).At-loop-head)
          c.loop-head-test.true
          (λ p d. (needs-in ready q p d, d)) (λ p d. d)
          (subst (λ (x : ℕ). Swept (NeededBy x) w v) c.at-q.ensures c.follow_pair.ensures),
    )

pub returns : goal.returns
returns c =
    followed c.requires.listed ((Now (goal.at.returns c).At-loop-head).full ∙ sym c.requires.full) (λ fits.
    flood-done (c.loop-head.invariant.1 fits) (board-inside c.requires.links.ready fits)
    (λ p b. omega (arith, queued-inside c.requires.listed p b, c.requires.full)) c.loop-head-test.false)

-- The flood of the closure, on a grid of bytes and a queue: the grid has a 0 where a place is found.
--   Flooding                           the loop's invariant
--   flood-start                        it holds where the queue lists the zeros: they are the bookings
--   flood-tail, flood-head, flood-room sizes
--   flood-turn                         a turn that sweeps all that the place at the head needs
--   flood-done                         the queue is used up: the zeros are the closure
--   flood-flipped                      the grid turned round has the closure
-- Assumes nothing.
use base.Fml.{GName}
use mathlib.Core.Path.{◌≡◌, refl, sym, ◌∙◌, subst}
use mathlib.Core.List.{List}
use mathlib.Core.Bool.{Bool, false, not}
use Prim.Native.Nat.{ℕ, ◌+◌, ◌≤◌, ◌<◌}
use native.Mathlib.Numerals.{add-one}
use native.Mathlib.Omega.{arith}
use lib.ListN.{length, set}
use lib.Seq.{get_or-set_same, get_or-set_other}
use Rattle.board.specs.Grid.{on}
use Rattle.board.specs.Machine.{Flipped}
use Rattle.board.specs.Board.{Board, Inside, Closed, follow, Flooded}
use Rattle.board.specs.Work.{Work, work_of, entry, Queued, strike_one, Room, Run, stay, then, Swept}
use Rattle.board.specs.Listing.{Lists, Listed}
use Rattle.board.proofs.Tally.{tally-le, tally-both}
use Rattle.board.proofs.Grids.{on-set-same, on-set-other}
use Rattle.board.proofs.Closure.{flooded-ext}
use Rattle.board.proofs.Flood.{Flood, start, add, advance, flooded}
use Rattle.board.proofs.Worklist.{strike-case, room-hit, run-grid, run-queue, run_room, run-off}

-- the places found: the grid's zeros
abbrev pub found : Work → ℕ → Bool
found w p = not (on w.grid p)

-- the flood of a work's zeros and queue
abbrev FloodOf : (B : Board) (Book : ℕ → Type 0) → Work → ℕ → Type 0
FloodOf B Book w head = Flood B Book (on w.grid) (entry w.queue) head w.tail

pub record Flooding (B : Board) (Book : ℕ → Type 0) (room : ℕ) (w : Work) (head : ℕ) : Type 0 where
  -- the grid has a byte for each place
  pub full : length w.grid ≡ B.size
  -- the queue has as many entries as it had
  pub space : length w.queue ≡ room
  -- the closure so far is in the grid and the queue
  pub flood : FloodOf B Book w head
  -- the bookings are found
  pub books : (p : ℕ) → Book p → on w.grid p ≡ false

-- ---- a run of strikes of places of the closure keeps the flood
-- the flood goes on at v, and the head, still below the tail, has the entry that it had at w
abbrev FloodKept : (B : Board) (Book : ℕ → Type 0) → ℕ → Work → Work → Type 0
FloodKept B Book head w v =
    FloodOf B Book v head × (entry v.queue head ≡ entry w.queue head) × (head < v.tail)

module _ {B : Board} {Book : ℕ → Type 0} {head : ℕ} where
  one-flood : (w : Work) (p : ℕ) → length w.grid ≡ B.size → Room w → head < w.tail
      → p < B.size → Closed B Book p → FloodOf B Book w head → FloodKept B Book head w (strike_one w p)
  one-flood w p full room h l closed s = strike-case (FloodKept B Book head w) w p
      (λ e. (
        rw (add-one w.tail) (add (on (set w.grid p 0)) (entry (set w.queue w.tail p)) p s l e closed
            (on-set-same w.grid p (omega arith)) (λ q ne. on-set-other w.grid p q ne)
            (get_or-set_same w.queue w.tail p 0 (room-hit w p room e (omega arith)))
            (λ i li. get_or-set_other w.queue w.tail i p 0 (omega arith))),
        get_or-set_other w.queue w.tail head p 0 (omega arith),
        omega arith,
      ))
      (λ e. (s, refl, h))

  run-flood : {Good : ℕ → Type 0} {w v : Work} → length w.grid ≡ B.size → Room w → head < w.tail
      → ((p : ℕ) → Good p → (p < B.size) × Closed B Book p) → FloodOf B Book w head → Run Good w v
      → FloodKept B Book head w v
  run-flood full room h good s stay = (s, refl, h)
  run-flood {Good} {w} full room h good s (then {v} {p} r g) =
      let before = run-flood full room h good s r in
      let small : (q : ℕ) → Good q → q < length w.grid = λ q k. omega (arith, (good q k).0) in
      let full' = run-grid r ∙ full in
      let room' = run_room small room r in
      let next = one-flood v p full' room' before.2 (good p g).0 (good p g).1 before.0 in
      (next.0, next.1 ∙ before.1, next.2)

-- ---- the loop
pub flood-start : {B : Board} {lent : GName} (grid queue : List ℕ) (tail : ℕ) → length grid ≡ B.size
    → Listed grid queue tail (length grid)
    → Flooding B (Queued (entry queue) tail) (length queue) (work_of grid queue tail lent) 0
flood-start grid queue tail e s = record {
  full = e;
  space = refl;
  flood = start (on grid) (entry queue) tail (subst (λ (n : ℕ). Listed grid queue tail n) e s);
  books = λ p b. subst (λ (x : ℕ). on grid x ≡ false) b.2 (s.queued b.0 b.1).1;
}

-- the bookings that the queue lists are on the board
pub queued-inside : {X : ℕ → Bool} {queue : ℕ → ℕ} {tail n : ℕ} → Lists X queue tail n
    → (p : ℕ) → Queued queue tail p → p < n
queued-inside {X} {queue} {tail} {n} s p b = subst (λ (x : ℕ). x < n) b.2 (s.queued b.0 b.1).0

module _ {B : Board} {Book : ℕ → Type 0} {room : ℕ} {w : Work} {head : ℕ} (s : Flooding B Book room w head) where
  pub flood-tail : w.tail ≤ B.size
  flood-tail = omega (arith, s.flood.lists.count, tally-le (found w) B.size)

  pub flood-head : head < w.tail → entry w.queue head < B.size
  flood-head h = (s.flood.lists.queued head h).0

  pub flood-room : B.size ≤ room → Room w
  flood-room l = rw s.full (omega (arith, s.space, s.flood.lists.count, tally-both (on w.grid) B.size))

  -- the places that the one at the head needs are swept, and the head moves on
  pub flood-turn : {Good : ℕ → Type 0} {v : Work} → B.size ≤ room → head < w.tail
      → ((p : ℕ) → Good p → (p < B.size) × B.Dep (entry w.queue head) p)
      → ((p : ℕ) → B.Dep (entry w.queue head) p → Good p)
      → Swept Good w v → Flooding B Book room v (head + 1)
  flood-turn {Good} {v} l h good all-good swept = record {
    full = run-grid swept.run ∙ s.full;
    space = run-queue swept.run ∙ s.space;
    flood = rw (add-one head) (advance kept.0 kept.2 (λ p d.
        swept.off p (all-good p (subst (λ (x : ℕ). B.Dep x p) kept.1 d))));
    books = λ p b. run-off p (s.books p b) swept.run;
  }
    where
      kept : FloodKept B Book head w v
      kept = run-flood s.full (flood-room l) h
          (λ p g. ((good p g).0, follow (s.flood.needed head h) (good p g).1)) s.flood swept.run

  pub flood-done : Inside B → ((p : ℕ) → Book p → p < B.size) → w.tail ≤ head
      → Flooded B Book (found w) w.tail
  flood-done inside books h =
      let used : head ≡ w.tail = omega (arith, s.flood.head_tail) in
      flooded inside books (subst (λ (x : ℕ). FloodOf B Book w x) used s.flood) s.books

pub flood-flipped : {B : Board} {Book : ℕ → Type 0} {grid typing : List ℕ} {n : ℕ}
    → Inside B → ((p : ℕ) → Book p → p < B.size) → length grid ≡ B.size
    → Flooded B Book (λ p. not (on grid p)) n → Flipped grid typing → Flooded B Book (on typing) n
flood-flipped inside books e f t = flooded-ext inside books (λ p l. sym (t.opposite p (omega arith))) f

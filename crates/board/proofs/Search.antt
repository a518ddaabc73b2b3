-- The search for the rounds, on a grid of bytes and a queue.
--   Searching                  the loop's invariant
--   search-start               it holds where the grid has what is ok and the queue lists the rest
--   search-tail, search-round, search-head, search-room   sizes
--   search-next, search-level  a new level begins, or the head is within one
--   search-turn                a turn that sweeps all that needs the place at the head
--   search-done                the queue is used up: the rounds are done
-- Assumes nothing.
use base.Fml.{GName}
use mathlib.Core.Path.{◌≡◌, refl, sym, ◌∙◌, subst, subst₂}
use mathlib.Core.List.{List}
use mathlib.Core.Bool.{not}
use Prim.Native.Nat.{ℕ, suc, ◌+◌, ◌≤◌, ◌<◌}
use native.Mathlib.Numerals.{add-one}
use native.Mathlib.Omega.{arith}
use lib.ListN.{length, set}
use lib.Seq.{get_or-set_same, get_or-set_other}
use Rattle.board.specs.Grid.{on}
use Rattle.board.specs.Board.{Board, Inside, Finished}
use Rattle.board.specs.Work.{Work, work_of, entry, strike_one, Room, Run, stay, then, Swept}
use Rattle.board.specs.Listing.{Listed}
use Rattle.board.proofs.Tally.{tally-le, tally-both}
use Rattle.board.proofs.Grids.{on-set-same, on-set-other}
use Rattle.board.proofs.Levels.{Levels, start, strike, advance, next_level, finished}
use Rattle.board.proofs.Worklist.{strike-case, room-hit, run-grid, run-queue, run_room}

-- the levels of a work's grid and queue
abbrev LevelsOf : Board → Work → ℕ → ℕ → ℕ → Type 0
LevelsOf B w head end round = Levels B (on w.grid) (entry w.queue) head end w.tail round

pub record Searching (B : Board) (room : ℕ) (w : Work) (head end round : ℕ) : Type 0 where
  -- the grid has a byte for each place
  pub full : length w.grid ≡ B.size
  -- the queue has as many entries as it had
  pub space : length w.queue ≡ room
  -- the rounds so far are in the grid and the queue
  pub levels : LevelsOf B w head end round

-- ---- a run of strikes keeps the levels, where each good place needs the place at the head
module _ {B : Board} {head end round : ℕ} (h : head < end) where
  -- a strike keeps the levels and the entry at the head
  one-levels : (w : Work) (p : ℕ) → length w.grid ≡ B.size → Room w
      → p < B.size → B.Dep p (entry w.queue head) → LevelsOf B w head end round
      → LevelsOf B (strike_one w p) head end round × (entry (strike_one w p).queue head ≡ entry w.queue head)
  one-levels w p full room l needs s = strike-case
      (λ v. LevelsOf B v head end round × (entry v.queue head ≡ entry w.queue head)) w p
      (λ e. (
        rw (add-one w.tail) (strike (on (set w.grid p 0)) (entry (set w.queue w.tail p)) p s h l e needs
            (on-set-same w.grid p (omega arith)) (λ q ne. on-set-other w.grid p q ne)
            (get_or-set_same w.queue w.tail p 0 (room-hit w p room e (omega arith)))
            (λ i li. get_or-set_other w.queue w.tail i p 0 (omega arith))),
        get_or-set_other w.queue w.tail head p 0 (omega (arith, s.end-tail)),
      ))
      (λ e. (s, refl))

  run-levels : {Good : ℕ → Type 0} {w v : Work} → length w.grid ≡ B.size → Room w
      → ((p : ℕ) → Good p → (p < B.size) × B.Dep p (entry w.queue head))
      → LevelsOf B w head end round → Run Good w v
      → LevelsOf B v head end round × (entry v.queue head ≡ entry w.queue head)
  run-levels full room good s stay = (s, refl)
  run-levels {Good} {w} full room good s (then {v} {p} r g) =
      let before = run-levels full room good s r in
      let small : (q : ℕ) → Good q → q < length w.grid = λ q k. omega (arith, (good q k).0) in
      let needs = subst (λ (x : ℕ). B.Dep p x) (sym before.1) (good p g).1 in
      let next = one-levels v p (run-grid r ∙ full) (run_room small room r) (good p g).0 needs before.0 in
      (next.0, next.1 ∙ before.1)

-- ---- the loop
pub search-start : {B : Board} {lent : GName} (grid queue : List ℕ) (tail : ℕ) → length grid ≡ B.size
    → ((p : ℕ) → p < B.size → on grid p ≡ B.ok p)
    → Listed grid queue tail (length grid) → Searching B (length queue) (work_of grid queue tail lent) 0 0 0
search-start grid queue tail e oks s = record {
  full = e;
  space = refl;
  levels = start (on grid) (entry queue) tail oks (subst (λ (n : ℕ). Listed grid queue tail n) e s);
}

module _ {B : Board} {room : ℕ} {w : Work} {head end round : ℕ} (s : Searching B room w head end round) where
  pub search-tail : w.tail ≤ B.size
  search-tail = omega (arith, s.levels.lists.count, tally-le (λ p. not (on w.grid p)) B.size)

  pub search-round : round ≤ B.size
  search-round = omega (arith, search-tail, s.levels.round-end, s.levels.end-tail)

  pub search-head : head < w.tail → entry w.queue head < B.size
  search-head h = (s.levels.lists.queued head h).0

  pub search-room : B.size ≤ room → Room w
  search-room l =
      rw s.full (omega (arith, s.space, s.levels.lists.count, tally-both (on w.grid) B.size))

  pub search-level : head < w.tail → (head ≡ end → ⊥) → head < end
  search-level h ne = omega (arith, s.levels.head-end)

  -- the places that need the one at the head are swept, and the head moves on
  pub search-turn : {Good : ℕ → Type 0} {v : Work} → B.size ≤ room → head < end
      → ((p : ℕ) → Good p → (p < B.size) × B.Dep p (entry w.queue head))
      → ((p : ℕ) → p < B.size → B.Dep p (entry w.queue head) → Good p)
      → Swept Good w v → Searching B room v (head + 1) end round
  search-turn {Good} {v} l h good all-good swept = record {
    full = run-grid swept.run ∙ s.full;
    space = run-queue swept.run ∙ s.space;
    levels = rw (add-one head) (advance kept.0 h (λ p lp d.
        swept.off p (all-good p lp (subst (λ (x : ℕ). B.Dep p x) kept.1 d))));
  }
    where
      kept : LevelsOf B v head end round × (entry v.queue head ≡ entry w.queue head)
      kept = run-levels h s.full (search-room l) good s.levels swept.run

  module _ (inside : Inside B) where
    pub search-next : head < w.tail → head ≡ end → Searching B room w head w.tail (round + 1)
    search-next h e = record {
      full = s.full;
      space = s.space;
      levels = rw (add-one round) (subst (λ (x : ℕ). LevelsOf B w x w.tail (suc round)) (sym e)
          (next_level inside (subst (λ (x : ℕ). LevelsOf B w x end round) e s.levels) (omega arith)));
    }

    pub search-done : w.tail ≤ head → Finished B (on w.grid) w.tail round
    search-done h = finished inside (subst₂ (λ (x y : ℕ). LevelsOf B w x y round) used used-end s.levels)
      where
        used : head ≡ w.tail
        used = omega (arith, s.levels.head-end, s.levels.end-tail)

        used-end : end ≡ w.tail
        used-end = omega (arith, s.levels.head-end, s.levels.end-tail)

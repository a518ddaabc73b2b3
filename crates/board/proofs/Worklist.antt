-- Strikes on a grid and a queue, and runs of strikes.
--   strike-hit, strike-miss   what one strike does
--   room-hit                  a strike finds room in the queue
--   one-grid, one-queue, one-lent, one-room, one-off, one-stays, one-marks   what one strike keeps and reaches
--   run_wider, run-append     runs of more places; one run after another
--   run-grid, run-queue, run-lent, run_room, run-off, run-marks    what a run keeps
--   swept_none, swept_same, swept-append                           sweeps, and one more sweep
--   swept-grid, swept-queue, swept-lent, swept-room                what a sweep keeps
-- Assumes nothing.
use mathlib.Core.Path.{◌≡◌, refl, sym, ◌∙◌, subst}
use mathlib.Core.Logic.{◌⊎◌, ⊎_elim}
use mathlib.Core.Bool.{true, false}
use Prim.Native.Nat.{ℕ, ◌+◌, ◌<◌}
use native.Mathlib.Omega.{arith}
use lib.ListN.{length, set, length-set}
use Rattle.board.specs.Grid.{on}
use Rattle.board.specs.Machine.{Marks}
use Rattle.board.specs.Work.{Work, work_of, strike_one, Room, Run, stay, then, Swept}
use Rattle.words.proofs.Bools.{never_both, true-or-false}
use Rattle.board.proofs.Tally.{tally-more, tally-pos}
use Rattle.board.proofs.Grids.{on-set-same, on-set-other, marks-set}

-- ---- one strike
pub strike-hit : (w : Work) (p : ℕ) → on w.grid p ≡ true
    → strike_one w p ≡ work_of (set w.grid p 0) (set w.queue w.tail p) (w.tail + 1) w.lent
unfolding strike_one
strike-hit w p e = rw e

pub strike-miss : (w : Work) (p : ℕ) → on w.grid p ≡ false → strike_one w p ≡ w
unfolding strike_one
strike-miss w p e = rw e

-- what holds of the work with the strike where p stands, and of the work as it is where not, holds after the strike
pub strike-case : (P : Work → Type 0) (w : Work) (p : ℕ)
    → (on w.grid p ≡ true → P (work_of (set w.grid p 0) (set w.queue w.tail p) (w.tail + 1) w.lent))
    → (on w.grid p ≡ false → P w) → P (strike_one w p)
strike-case P w p hit miss = ⊎_elim
    (λ e. subst P (sym (strike-hit w p e)) (hit e))
    (λ e. subst P (sym (strike-miss w p e)) (miss e))
    (true-or-false (on w.grid p))

pub room-hit : (w : Work) (p : ℕ) → Room w → on w.grid p ≡ true → p < length w.grid
    → w.tail < length w.queue
room-hit w p r e l = omega (arith, tally-pos (on w.grid) (length w.grid) p l e)

module _ (w : Work) (p : ℕ) where
  one-grid : length (strike_one w p).grid ≡ length w.grid
  one-grid = strike-case (λ v. length v.grid ≡ length w.grid) w p (λ e. length-set w.grid p 0) (λ e. refl)

  one-queue : length (strike_one w p).queue ≡ length w.queue
  one-queue = strike-case (λ v. length v.queue ≡ length w.queue) w p
      (λ e. length-set w.queue w.tail p) (λ e. refl)

  one-lent : (strike_one w p).lent ≡ w.lent
  one-lent = strike-case (λ v. v.lent ≡ w.lent) w p (λ e. refl) (λ e. refl)

  one-marks : Marks w.grid → Marks (strike_one w p).grid
  one-marks m = strike-case (λ v. Marks v.grid) w p (λ e. marks-set w.grid p m) (λ e. m)

  one-stays : (q : ℕ) → on w.grid q ≡ false → on (strike_one w p).grid q ≡ false
  one-stays q f = strike-case (λ v. on v.grid q ≡ false) w p
      (λ e. on-set-other w.grid p q (λ x. never_both e (subst (λ (y : ℕ). on w.grid y ≡ false) x f)) ∙ f)
      (λ e. f)

  module _ (l : p < length w.grid) where
    pub one-off : on (strike_one w p).grid p ≡ false
    one-off = strike-case (λ v. on v.grid p ≡ false) w p (λ e. on-set-same w.grid p l) (λ e. e)

    one-room : Room w → Room (strike_one w p)
    one-room r = strike-case Room w p
        (λ e. rw (length-set w.grid p 0, length-set w.queue w.tail p)
        (omega (
          arith,
          tally-more (on (set w.grid p 0)) (on w.grid) (length w.grid) p l
              (on-set-same w.grid p l) e (λ i li ne. on-set-other w.grid p i ne),
        )))
        (λ e. r)

-- ---- runs of strikes
run_wider : {G H : ℕ → Type 0} {w v : Work} → ((p : ℕ) → G p → H p) → Run G w v → Run H w v
run_wider f stay = stay
run_wider f (then {v} {p} r g) = then (run_wider f r) (f p g)

run-append : {G : ℕ → Type 0} {w v x : Work} → Run G w v → Run G v x → Run G w x
run-append r stay = r
run-append r (then {v} {p} q g) = then (run-append r q) g

module _ {Good : ℕ → Type 0} {w : Work} where
  pub run-grid : {v : Work} → Run Good w v → length v.grid ≡ length w.grid
  run-grid stay = refl
  run-grid (then {v} {p} r g) = one-grid v p ∙ run-grid r

  pub run-queue : {v : Work} → Run Good w v → length v.queue ≡ length w.queue
  run-queue stay = refl
  run-queue (then {v} {p} r g) = one-queue v p ∙ run-queue r

  run-lent : {v : Work} → Run Good w v → v.lent ≡ w.lent
  run-lent stay = refl
  run-lent (then {v} {p} r g) = one-lent v p ∙ run-lent r

  run-marks : {v : Work} → Marks w.grid → Run Good w v → Marks v.grid
  run-marks m stay = m
  run-marks m (then {v} {p} r g) = one-marks v p (run-marks m r)

  pub run-off : {v : Work} (q : ℕ) → on w.grid q ≡ false → Run Good w v → on v.grid q ≡ false
  run-off q f stay = f
  run-off q f (then {v} {p} r g) = one-stays v p q (run-off q f r)

  pub run_room : {v : Work} → ((p : ℕ) → Good p → p < length w.grid) → Room w → Run Good w v → Room v
  run_room small h stay = h
  run_room small h (then {v} {p} r g) = one-room v p (omega (arith, small p g, run-grid r)) (run_room small h r)

-- ---- sweeps
pub swept_none : {G : ℕ → Type 0} {w : Work} → ((q : ℕ) → G q → ⊥) → Swept G w w
swept_none f = record { run = stay; off = λ q h. absurd (f q h) }

pub swept_same : {G H : ℕ → Type 0} {w v : Work} → ((q : ℕ) → G q → H q) → ((q : ℕ) → H q → G q)
    → Swept G w v → Swept H w v
swept_same f g s = record { run = run_wider f s.run; off = λ q h. s.off q (g q h) }

-- one sweep after another
pub swept-append : {G K H : ℕ → Type 0} {w v x : Work}
    → ((q : ℕ) → G q → H q) → ((q : ℕ) → K q → H q) → ((q : ℕ) → H q → G q ⊎ K q)
    → Swept G w v → Swept K v x → Swept H w x
swept-append wide-g wide-k split a b = record {
  run = run-append (run_wider wide-g a.run) (run_wider wide-k b.run);
  off = λ q h. ⊎_elim (λ g. run-off q (a.off q g) b.run) (λ k. b.off q k) (split q h);
}

module _ {Good : ℕ → Type 0} {w v : Work} (s : Swept Good w v) where
  pub swept-grid : length v.grid ≡ length w.grid
  swept-grid = run-grid s.run

  pub swept-queue : length v.queue ≡ length w.queue
  swept-queue = run-queue s.run

  -- the buffer that is lent to the queue is still the same
  pub swept-lent : v.lent ≡ w.lent
  swept-lent = run-lent s.run

  pub swept-marks : Marks w.grid → Marks v.grid
  swept-marks m = run-marks m s.run

  pub swept-room : ((p : ℕ) → Good p → p < length w.grid) → Room w → Room v
  swept-room small r = run_room small r s.run

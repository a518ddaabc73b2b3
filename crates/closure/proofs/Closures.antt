-- The closure of the bookings in a grid ("Smallest").
--   closes      a flood from the marked pairs, turned round, is the closure of the bookings
-- Assumes nothing.
use mathlib.Core.Path.{◌≡◌, ◌∙◌}
use mathlib.Core.List.{List}
use Prim.Native.Nat.{ℕ, ◌*◌}
use native.Mathlib.Omega.{arith}
use lib.ListN.{length, get_or}
use Rattle.board.specs.Machine.{Flipped}
use Rattle.board.proofs.Closure.{flooded-books}
use Rattle.board.proofs.Flooding.{flood-flipped}
use Rattle.typing.specs.Needs.{Ready}
use Rattle.flood.specs.Follows.{Followed}
use Rattle.typing.proofs.Boards.{board-inside}
use Rattle.bookings.specs.Steps.{BookingsIn}
use Rattle.closure.specs.Closing.{Marked, Closes}
use Rattle.closure.proofs.Marks.{booked-in}

pub closes : {script names bookings before after grid : List ℕ} {desk shapes k found : ℕ}
    → Ready script names shapes → BookingsIn bookings (get_or script 0 0) shapes k
    → length before ≡ get_or script 0 0 * shapes → Marked bookings desk shapes k before
    → Followed script names shapes before after found → Flipped after grid
    → Closes script names shapes bookings desk k grid found
closes ready inside full marked followed flipped = record {
  full = flipped.full ∙ followed.full ∙ full;
  marks = flipped.marks;
  closure = λ fits. flood-flipped (board-inside ready fits) (λ p b. booked-in inside b) (followed.full ∙ full)
      (flooded-books (λ p off. marked.only p off.0 off.1)
      (λ p b. (omega (arith, booked-in inside b), marked.each p b)) (followed.closure fits)) flipped;
}

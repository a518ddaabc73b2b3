-- The search forwards, from the pairs that are queued.
--   led-asked   what finding the card of the next pair asks
--   followed    the flood from the places that a queue lists is the one from the places that are off
-- Assumes nothing.
use mathlib.Core.Path.{◌≡◌, subst}
use mathlib.Core.List.{List}
use mathlib.Core.Bool.{false, not}
use Prim.Native.Nat.{ℕ, ◌+◌, ◌-◌, ◌*◌, ◌≤◌, ◌<◌}
use native.Mathlib.Omega.{arith}
use lib.ListN.{length, get_or}
use Rattle.board.specs.Grid.{on}
use Rattle.board.specs.Board.{Flooded}
use Rattle.board.specs.Work.{Queued}
use Rattle.board.specs.Listing.{Lists}
use Rattle.board.proofs.Closure.{flooded-books}
use Rattle.board.proofs.Flooding.{queued-inside}
use Rattle.typing.specs.Needs.{board_of, Ready}
use Rattle.walks.specs.Walks.{Starts}
use Rattle.walks.specs.Cards.{Reciprocal}
use Rattle.walks.proofs.Cards.{some-card, place-below}
use Rattle.flood.specs.Follows.{LedCardAsked, Followed}

module _ {script names : List ℕ} {shapes factor last q : ℕ} (ready : Ready script names shapes)
    (on-board : q < get_or script 0 0 * shapes) (by : Reciprocal shapes factor) (below : last ≤ get_or script 0 0 -
    1) where
  pub led-asked : {starts : List ℕ} → Starts script starts → LedCardAsked script starts shapes factor last q
  led-asked st =
      let some = some-card ready on-board in
      record {
        few-cards = ready.few-cards;
        words = ready.words;
        card-in = omega (arith, some);
        ends = omega (arith, some, st.cards);
        link-in = st.within (last + 1) (omega (arith, some));
        by = by;
        on-board = place-below ready on-board;
      }

-- The bookings that a queue lists are the places that are off.
pub followed : {script names : List ℕ} {shapes : ℕ} {before after : List ℕ} {queue : ℕ → ℕ} {tail found : ℕ}
    → Lists (on before) queue tail (length before) → length after ≡ length before
    → ((fits : List ℕ)
    → Flooded (board_of script names shapes fits) (Queued queue tail) (λ p. not (on after p)) found)
    → Followed script names shapes before after found
followed {before = before} {queue = queue} {tail = tail} listed same f = record {
  full = same;
  closure = λ fits. flooded-books (λ q b. (queued-inside listed q b, is-off q b))
      (λ q o. listed.listed q o.0 o.1) (f fits);
}
  where
    is-off : (q : ℕ) → Queued queue tail q → on before q ≡ false
    is-off q b = subst (λ (x : ℕ). on before x ≡ false) b.2 (listed.queued b.0 b.1).1

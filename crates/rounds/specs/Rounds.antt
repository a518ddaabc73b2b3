-- The rounds of the search backwards: what they ask and find; no part of a promise.
-- SourceCardAsked   what finding the card of the next pair asks
-- Roomy        a byte for each pair, and room in a queue's buffer for all
-- RoundsAsked  what the rounds ask; StrikeAsked: with indexes still to be built
-- Searched     the answer; StrikesLeft: with what becomes of the grid
-- Assumes nothing.
use Rattle.std.specs.Prelude.{ℕ, suc, ◌+◌, ◌*◌, ◌≤◌, ◌<◌, ◌≡◌, List, Bool, length, get_or, Option}
use Rattle.std.specs.Borrow.{Bor}
use Rattle.words.specs.Limits.{max_cards}
use Rattle.words.specs.Sizes.{max_grid}
use Rattle.links.specs.Index.{ArrivalsOf}
use Rattle.board.specs.Grid.{on}
use Rattle.board.specs.Board.{Board, Finished}
use Rattle.board.specs.Machine.{Marks}
use Rattle.board.specs.declared.queue.Queue.{Queue}
use Rattle.board.specs.Listing.{Listed}
use Rattle.typing.specs.Needs.{board_of}
use Rattle.walks.specs.declared.walk.Walk.{Walk}
use Rattle.walks.specs.Walks.{WalkReady}
use Rattle.walks.specs.Cards.{Reciprocal}
use Rattle.strikes.specs.declared.index.NameIndex.{NameIndex}
use Rattle.strikes.specs.Strikes.{StrikeReady}

-- What finding the card of the pair at place q asks, where the guess is by the last link to the card `last`.
pub record SourceCardAsked (script first : List ℕ) (shapes factor last q : ℕ) : Type 0 where
  pub few-cards : get_or script 0 0 ≤ max_cards
  pub words : 2 + 3 * get_or script 1 0 ≤ length script
  pub card-in : last < get_or script 0 0
  pub heads : last < length first
  pub link-in : get_or first last 0 ≤ get_or script 1 0
  pub by : Reciprocal shapes factor
  pub on-board : q < max_grid

-- A byte for each pair, and room in the queue's buffer for all.
pub record Roomy (script : List ℕ) (shapes : ℕ) (grid queue : List ℕ) : Type 0 where
  pub full : length grid ≡ get_or script 0 0 * shapes
  pub room : length grid ≤ length queue

-- What the rounds ask: what striking goes by, a byte and room for each pair, and the pairs that are off queued.
pub record RoundsAsked (walk : Walk) (out : NameIndex) (back : Option (Bor NameIndex)) (grid : List ℕ) (queue : Queue)
    : Type 0 where
  pub by : StrikeReady walk out back
  pub lent : Roomy walk.script.now walk.shapes grid queue.places.now
  pub listed : Listed grid queue.places.now queue.len (length grid)

-- The same where the indexes are still to be built.
pub record StrikeAsked (walk : Walk) (grid queue : List ℕ) : Type 0 where
  pub links : WalkReady walk
  pub arriving : ArrivalsOf walk.script.now walk.first.now walk.next.now (get_or walk.script.now 0 0)
      (get_or walk.script.now 1 0)
  pub lent : Roomy walk.script.now walk.shapes grid queue

-- The rounds counted are one more than those that strike something: the first that strikes none is counted too.
pub record Searched (B : Board) (X : ℕ → Bool) (rounds struck : ℕ) : Type 0 where
  pub striking : ℕ
  pub counted : rounds ≡ suc striking
  pub finished : Finished B X struck striking

-- The grid after the search is the answer on the grid before, as long as that one, and of 0 and 1 if that one was.
pub record StrikesLeft (script names : List ℕ) (shapes : ℕ) (before after : List ℕ) (rounds struck : ℕ) : Type 0 where
  pub searched : Searched (board_of script names shapes before) (on after) rounds struck
  pub size : length after ≡ length before
  pub marks : Marks before → Marks after

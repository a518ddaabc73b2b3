-- The search forwards: what it finds by a pair, asks and finds in all; no part of a promise.
-- LedAsked     what striking the pair that an entry names asks
-- LeavingAsked, ArrivingAsked   what following the links from a card asks, and those to it
-- PairAsked    what following the links of a pair asks
-- LedCardAsked what finding the card of the next pair asks
-- FloodAsked   what the search asks; FloodReady: before the pairs that are off are queued
-- Off, Followed   its answer: from the places that were off
-- Assumes nothing.
use Rattle.std.specs.Prelude.{ℕ, ◌+◌, ◌*◌, ◌/◌, ◌≤◌, ◌<◌, ◌≡◌, List, false, not, length, get_or}
use Rattle.words.specs.Limits.{max_cards}
use Rattle.words.specs.Sizes.{max_grid}
use Rattle.bags.specs.Label.{outgoing, incoming}
use Rattle.links.specs.Index.{ArrivalsOf}
use Rattle.board.specs.Grid.{on}
use Rattle.board.specs.Board.{Flooded}
use Rattle.board.specs.declared.queue.Queue.{Queue}
use Rattle.board.specs.Work.{Work, Room}
use Rattle.board.specs.Listing.{Listed}
use Rattle.typing.specs.Needs.{board_of}
use Rattle.walks.specs.declared.walk.Walk.{Walk}
use Rattle.walks.specs.Walks.{WalkReady}
use Rattle.walks.specs.Entries.{EntryGood, RowAsked}
use Rattle.walks.specs.Cards.{Reciprocal}

-- What striking that pair asks.
pub record LedAsked (entry base : ℕ) (w : Work) : Type 0 where
  pub few-places : length w.grid ≤ max_grid
  pub on-board : (p : ℕ) → EntryGood entry base p → p < length w.grid
  pub room : Room w

-- What following the links lo up to hi asks.
pub record LeavingAsked (script row : List ℕ) (shapes lo hi : ℕ) (w : Work) : Type 0 where
  pub row_in : RowAsked outgoing script row shapes (length w.grid)
  pub rising : lo ≤ hi
  pub links-in : hi ≤ get_or script 1 0
  pub room : Room w

-- What following the links to card m back asks.
pub record ArrivingAsked (script first next row : List ℕ) (shapes m : ℕ) (w : Work) : Type 0 where
  pub row_in : RowAsked incoming script row shapes (length w.grid)
  pub arrivals : ArrivalsOf script first next (m + 1) (get_or script 1 0)
  pub room : Room w

-- What following the links of the pair at place q, of card n, asks.
pub record PairAsked (walk : Walk) (n q : ℕ) (w : Work) : Type 0 where
  pub links : WalkReady walk
  pub card : n ≡ q / walk.shapes
  pub on-board : q < length w.grid
  pub full : length w.grid ≡ get_or walk.script.now 0 0 * walk.shapes
  pub room : Room w

-- What finding the card of the pair at place q asks, where the guess is by the last link from the card `last`.
pub record LedCardAsked (script starts : List ℕ) (shapes factor last q : ℕ) : Type 0 where
  pub few-cards : get_or script 0 0 ≤ max_cards
  pub words : 2 + 3 * get_or script 1 0 ≤ length script
  pub card-in : last < get_or script 0 0
  pub ends : last + 1 < length starts
  pub link-in : get_or starts (last + 1) 0 ≤ get_or script 1 0
  pub by : Reciprocal shapes factor
  pub on-board : q < max_grid

-- What the search asks: where each card's links stand, a byte for each pair, and the pairs to start from, which are off
-- and queued.
pub record FloodAsked (walk : Walk) (grid : List ℕ) (queue : Queue) : Type 0 where
  pub links : WalkReady walk
  pub full : length grid ≡ get_or walk.script.now 0 0 * walk.shapes
  pub room : length grid ≤ length queue.places.now
  pub listed : Listed grid queue.places.now queue.len (length grid)

-- The same before the pairs that are off are queued: a buffer has room for all.
pub record FloodReady (walk : Walk) (grid room : List ℕ) : Type 0 where
  pub links : WalkReady walk
  pub full : length grid ≡ get_or walk.script.now 0 0 * walk.shapes
  pub room-in : length grid ≤ length room

-- A place of the board whose byte is not 1.
abbrev Off : List ℕ → ℕ → Type 0
Off grid p = (p < length grid) × (on grid p ≡ false)

-- What is off after the search is the closure of what was off before it. Which pairs fit plays no part.
pub record Followed (script names : List ℕ) (shapes : ℕ) (before after : List ℕ) (found : ℕ) : Type 0 where
  pub full : length after ≡ length before
  pub closure : (fits : List ℕ)
      → Flooded (board_of script names shapes fits) (Off before) (λ p. not (on after p)) found

-- The work of a search: a grid of bytes, a queue of places and the queue's tail; no part of a promise.
-- A place is struck by a 0 in the grid and an entry in the queue.
--   Work, work  the three together: of a grid and a queue; work_of: of each by itself
--   entry       what stands in a queue
--   Queued      a place is among the first entries of a queue
--   strike_one   one place is struck, if it still stands
--   Room        the queue has room for all that still stands
--   Lent        a grid and a buffer with room for all places
--   Strikable   a place of the board, and room in the queue
--   Run         strikes one after another, each of a good place
--   Swept       a run after which no good place stands
-- Assumes nothing.
use base.Fml.{GName}
use Rattle.std.specs.Prelude.{◌≡◌, List, false, cond, ℕ, ◌+◌, ◌≤◌, ◌<◌, length, get_or, set}
use Rattle.words.specs.Sizes.{max_grid}
use Rattle.board.specs.Grid.{on, tally}
use Rattle.board.specs.declared.queue.Queue.{Queue}

pub record Work : Type 0 where
  -- 1 where a place stands
  pub grid : List ℕ
  -- the places struck, in their order, before the tail
  pub queue : List ℕ
  -- how many places are queued
  pub tail : ℕ
  -- which buffer is lent to the queue
  pub lent : GName

-- The work of a grid, the entries of a queue, their number and the buffer.
abbrev pub work_of : List ℕ → List ℕ → ℕ → GName → Work
work_of grid queue tail lent = record { grid = grid; queue = queue; tail = tail; lent = lent }

-- The work of a grid and a queue.
abbrev pub work : List ℕ → Queue → Work
work grid queue = work_of grid queue.places.now queue.len queue.places.ghost_name

-- What stands in a queue.
abbrev pub entry : List ℕ → ℕ → ℕ
entry queue i = get_or queue i 0

-- p is among the first `tail` entries of a queue.
abbrev pub Queued : (ℕ → ℕ) → ℕ → ℕ → Type 0
Queued queue tail p = (i : ℕ) × (i < tail) × (queue i ≡ p)

-- The place p is struck and queued, if it still stands.
unfoldable pub strike_one : Work → ℕ → Work
strike_one w p =
    cond (on w.grid p) (work_of (set w.grid p 0) (set w.queue w.tail p) (w.tail + 1) w.lent) w

-- The queue has room for all that still stands.
abbrev pub Room : Work → Type 0
Room w = w.tail + tally (on w.grid) (length w.grid) ≤ length w.queue

-- A grid and a buffer that are lent to a search: the buffer has room for every place.
pub record Lent (grid queue : List ℕ) : Type 0 where
  -- a place is a word
  pub few-places : length grid ≤ max_grid
  pub room : length grid ≤ length queue

-- The place p can be struck: it is on the board, and the queue has room for it.
pub record Strikable (w : Work) (p : ℕ) : Type 0 where
  -- a place is a word
  pub few-places : length w.grid ≤ max_grid
  pub on-board : p < length w.grid
  pub room : Room w

-- Strikes one after another, each of a good place, lead from w to the other work.
pub data Run (Good : ℕ → Type 0) (w : Work) : Work → Type 0 where
  stay : Run Good w w
  then : {v : Work} {p : ℕ} → Run Good w v → Good p → Run Good w (strike_one v p)

-- A run of good strikes leads from w to v, where no good place stands any more.
pub record Swept (Good : ℕ → Type 0) (w v : Work) : Type 0 where
  -- only good places are struck
  pub run : Run Good w v
  -- and all of them
  pub off : (p : ℕ) → Good p → on v.grid p ≡ false

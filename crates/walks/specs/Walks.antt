-- What walks along the links of a card make good; no part of a promise. `Good i p`: link i makes the place p good.
-- Leaving      by one of the links from a card, which stand side by side
-- Arriving     by one of the links to a card
-- HasAll       a set has all that is good
-- LinksReady   what every walk goes by: a script and a table of names, where each card's links stand, and whether those
--              to a card are looked at
-- WalkReady    the same of what a search goes by
-- Assumes nothing.
use Rattle.std.specs.Prelude.{ℕ, ◌+◌, ◌≤◌, ◌<◌, ◌≡◌, List, Bool, true, false, length, get_or}
use Rattle.words.specs.Limits.{max_kinds}
use Rattle.script.specs.Link.{from_at, to_at}
use Rattle.links.specs.Index.{ArrivalsOf}
use Rattle.sheet.specs.Opened.{OnlyOutgoing}
use Rattle.typing.specs.Needs.{Ready}
use Rattle.walks.specs.declared.walk.Walk.{Walk}

pub record Leaving (Good : ℕ → ℕ → Type 0) (lo hi p : ℕ) : Type 0 where
  pub link : ℕ
  pub low : lo ≤ link
  pub high : link < hi
  pub good : Good link p

pub record Arriving (script : List ℕ) (m : ℕ) (Good : ℕ → ℕ → Type 0) (p : ℕ) : Type 0 where
  pub link : ℕ
  pub below : link < get_or script 1 0
  pub leads : to_at script link ≡ m
  pub good : Good link p

-- The set has all that is good.
abbrev pub HasAll : (ℕ → Bool) → (ℕ → Type 0) → Type 0
HasAll X Good = (q : ℕ) → Good q → X q ≡ true

-- The links from card n stand from `starts n` up to `starts (n + 1)`.
pub record Starts (script starts : List ℕ) : Type 0 where
  pub cards : get_or script 0 0 < length starts
  pub within : (n : ℕ) → n ≤ get_or script 0 0 → get_or starts n 0 ≤ get_or script 1 0
  pub rising : (n : ℕ) → n < get_or script 0 0 → get_or starts n 0 ≤ get_or starts (n + 1) 0
  pub right : (n i : ℕ) → n < get_or script 0 0 → get_or starts n 0 ≤ i → i < get_or starts (n + 1) 0
      → from_at script i ≡ n
  pub each : (i : ℕ) → i < get_or script 1 0
      → (get_or starts (from_at script i) 0 ≤ i) × (i < get_or starts (from_at script i + 1) 0)

-- A script and a table of names that fit together, and where the links from each card stand and, if some shape names an
-- incoming kind, those to it.
pub record LinksReady (script starts first next names : List ℕ) (shapes : ℕ) (incoming : Bool) : Type 0 where
  pub ready : Ready script names shapes
  pub leaving : Starts script starts
  pub arriving : incoming ≡ true → ArrivalsOf script first next (get_or script 0 0) (get_or script 1 0)
  pub ways : incoming ≡ false → OnlyOutgoing names shapes max_kinds

-- The same of what a search goes by.
abbrev pub WalkReady : Walk → Type 0
WalkReady walk =
    LinksReady walk.script.now walk.starts.now walk.first.now walk.next.now walk.names.now walk.shapes walk.incoming

-- What the search backwards strikes by one pair, and asks; no part of a promise.
-- NamedGood    the pairs of a card whose shape names a shape for a label; NamedAsked: what striking them asks
-- NeedGood     the pairs that need one of a link's far end, by the link seen one way
-- NeedAsked    what striking by links asks; SourcesAsked, TargetsAsked: by those to a card, and by those from it
-- StrikeReady  what striking goes by
-- NeedingAsked what striking all pairs that need one asks
-- Assumes nothing.
use Rattle.std.specs.Prelude.{ℕ, suc, ◌+◌, ◌*◌, ◌/◌, ◌≤◌, ◌<◌, ◌≡◌, List, length, get_or, Option}
use Rattle.std.specs.Borrow.{Bor}
use Rattle.words.specs.Limits.{max_kinds, max_shapes}
use Rattle.words.specs.Sizes.{max_grid}
use Rattle.bags.specs.Label.{Way, outgoing, incoming}
use Rattle.template.specs.Machine.{entry_at}
use Rattle.script.specs.Link.{near_at, label_at}
use Rattle.links.specs.Index.{ArrivalsOf}
use Rattle.board.specs.Work.{Work, Room}
use Rattle.typing.specs.Needs.{Ready}
use Rattle.walks.specs.Walks.{Starts}
use Rattle.walks.specs.declared.walk.Walk.{Walk}
use Rattle.strikes.specs.declared.index.NameIndex.{NameIndex}
use Rattle.strikes.specs.Indexes.{Table, IndexOf, WayIndex, IndexedBy}

-- The pairs of the card at `base` whose shape names u for the label k.
pub record NamedGood (names : List ℕ) (shapes k base u p : ℕ) : Type 0 where
  pub by : ℕ
  pub below : by < shapes
  pub names-it : entry_at names by k ≡ suc u
  pub at : p ≡ base + by

-- What striking these asks, of the label of a kind in one half of the table.
pub record NamedAsked (names : List ℕ) (shapes : ℕ) (index : NameIndex) (kind base u : ℕ) (w : Work) : Type 0 where
  pub table : Table names shapes
  pub half : index.start ≤ max_kinds
  pub places : IndexOf names shapes index
  pub kind-in : kind < max_kinds
  pub shape-in : u < max_shapes
  pub few-places : length w.grid ≤ max_grid
  -- the card's pairs are on the board
  pub pairs : base + shapes ≤ length w.grid
  pub room : Room w

-- The pairs of link i's near end, seen one way, whose shape names u for its label: they need u at its far end.
abbrev pub NeedGood : Way → List ℕ → List ℕ → ℕ → ℕ → ℕ → ℕ → Type 0
NeedGood way script names shapes u i p =
    NamedGood names shapes (label_at way script i) (near_at way script i * shapes) u p

-- What striking by links seen one way the pairs that need the shape u asks.
pub record NeedAsked (way : Way) (walk : Walk) (index : NameIndex) (u : ℕ) (w : Work) : Type 0 where
  pub ready : Ready walk.script.now walk.names.now walk.shapes
  pub places : WayIndex walk.names.now walk.shapes way index
  pub shape-in : u < walk.shapes
  pub full : length w.grid ≡ get_or walk.script.now 0 0 * walk.shapes
  pub room : Room w

-- By the links to card m.
pub record SourcesAsked (walk : Walk) (index : NameIndex) (m u : ℕ) (w : Work) : Type 0 where
  pub need : NeedAsked outgoing walk index u w
  pub arrivals : ArrivalsOf walk.script.now walk.first.now walk.next.now (m + 1) (get_or walk.script.now 1 0)

-- By the links lo up to hi.
pub record TargetsAsked (walk : Walk) (index : NameIndex) (lo hi u : ℕ) (w : Work) : Type 0 where
  pub need : NeedAsked incoming walk index u w
  pub rising : lo ≤ hi
  pub links-in : hi ≤ get_or walk.script.now 1 0

-- What striking goes by: a script, where its links stand, those to a card too, and the indexes of its names.
pub record StrikeReady (walk : Walk) (out : NameIndex) (back : Option (Bor NameIndex)) : Type 0 where
  pub ready : Ready walk.script.now walk.names.now walk.shapes
  pub leaving : Starts walk.script.now walk.starts.now
  pub arriving : ArrivalsOf walk.script.now walk.first.now walk.next.now (get_or walk.script.now 0 0)
      (get_or walk.script.now 1 0)
  pub places : IndexedBy walk.names.now walk.shapes out back

-- What striking all pairs that need the one at place q, of card m, asks.
pub record NeedingAsked (walk : Walk) (out : NameIndex) (back : Option (Bor NameIndex)) (m q : ℕ) (w : Work)
    : Type 0 where
  pub by : StrikeReady walk out back
  pub card : m ≡ q / walk.shapes
  pub on-board : q < length w.grid
  pub full : length w.grid ≡ get_or walk.script.now 0 0 * walk.shapes
  pub room : Room w

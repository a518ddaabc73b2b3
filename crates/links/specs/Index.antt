-- Where the links of a card stand, those from it and those to it, and how many of each kind lead to it; no part of a
-- promise.
-- StartsOf     where each card's links start; StartsAsked, SkipAsked: what finding that asks
-- LeavingOf    the same of links that rise; LeavingLinksAsked: what taking out the links from one card asks
-- ArrivalsOf   the links to each card are chained; ChainAsked, ChainLeft: what chaining them asks and leaves
-- CountArrivingAsked, ArrivingCounted   what counting the kinds of the links to a card asks and leaves
-- Assumes nothing.
use Rattle.std.specs.Prelude.{ℕ, ◌+◌, ◌≤◌, ◌<◌, ◌≡◌, List, length, get_or}
use Rattle.words.specs.Chain.{Chained, Blank}
use Rattle.bags.specs.Label.{incoming}
use Rattle.script.specs.Link.{kind_at, to_at, below}
use Rattle.script.specs.Steps.{LinksIn, Ascending}
use Rattle.links.specs.Counts.{way_count}

-- ---- the links from a card
-- Where each card's links start.
pub record StartsOf (script starts : List ℕ) (cards links : ℕ) : Type 0 where
  pub room : cards < length starts
  pub exact : (c : ℕ) → c ≤ cards → get_or starts c 0 ≡ below script c links

-- What finding where each card's links start asks.
pub record StartsAsked (script : List ℕ) (links cards : ℕ) (starts : List ℕ) : Type 0 where
  pub ascending : Ascending script links
  pub room : cards < length starts

-- What going on to a card's first link asks: no link before link `from` starts at the card or above it.
pub record SkipAsked (script : List ℕ) (links card from : ℕ) : Type 0 where
  pub ascending : Ascending script links
  pub before : from ≤ below script card links

-- The links rise, and where those from each card start.
pub record LeavingOf (script starts : List ℕ) (cards links : ℕ) : Type 0 where
  pub ascending : Ascending script links
  pub starts-of : StartsOf script starts cards links

-- What taking out the links from card n asks.
pub record LeavingLinksAsked (script starts : List ℕ) (n : ℕ) : Type 0 where
  pub links : ℕ
  pub leaving : LeavingOf script starts (n + 1) links

-- ---- the links to a card
-- The links are chained by the cards that they lead to.
pub record ArrivalsOf (script first next : List ℕ) (cards links : ℕ) : Type 0 where
  pub cards-in : cards ≤ length first
  pub links-in : links ≤ length next
  pub chained : Chained (to_at script) first next links

-- What chaining the links asks.
pub record ChainAsked (script : List ℕ) (links : ℕ) (first next : List ℕ) : Type 0 where
  pub within : LinksIn script 0 links
  pub cards : (i : ℕ) → i < links → to_at script i < length first
  pub blank : Blank first next links

-- What it leaves in the two lists that were lent.
pub record ChainLeft (script : List ℕ) (links : ℕ) (first₀ next₀ first next : List ℕ) : Type 0 where
  pub chained : Chained (to_at script) first next links
  pub sizes : (length first ≡ length first₀) × (length next ≡ length next₀)

-- The links to a card are chained, they are in the script, and each kind of theirs has a count, which is 0.
pub record CountArrivingAsked (script first next : List ℕ) (links card : ℕ) (counts : List ℕ) : Type 0 where
  pub within : LinksIn script 0 links
  pub arrivals : ArrivalsOf script first next (card + 1) links
  pub kinds : (i : ℕ) → i < links → kind_at script i < length counts
  pub zeros : (k : ℕ) → k < length counts → get_or counts k 0 ≡ 0

-- How many of the links to the card have each kind.
pub record ArrivingCounted (script : List ℕ) (links card : ℕ) (counts₀ counts : List ℕ) : Type 0 where
  pub exact : (k : ℕ) → k < length counts₀ → get_or counts k 0 ≡ way_count incoming script card k links
  pub size : length counts ≡ length counts₀

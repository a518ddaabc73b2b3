-- Cards whose links have the same kinds; no part of a promise.
-- marks       how many marks there are
-- TwinOf      a card that is no later and has as many links of each kind; TwinAsked: what finding one asks
-- TwinsOf     such a card for each card; TwinsAsked, TwinsLeft: what finding them asks and leaves
-- Assumes nothing.
use Rattle.std.specs.Prelude.{ℕ, ◌+◌, ◌≤◌, ◌<◌, ◌≡◌, List, length, get_or, Option, IfSome}
use Rattle.words.specs.Limits.{max_cards}
use Rattle.bags.specs.Label.{outgoing}
use Rattle.links.specs.Counts.{way_count}
use Rattle.links.specs.Index.{LeavingOf}

-- How many marks there are: the size of a table of the code's own.
abbrev pub marks : ℕ
marks = 1024

-- Card m is card n or before it, and as many links of each kind start at it.
pub record TwinOf (script : List ℕ) (links n m : ℕ) : Type 0 where
  pub before : m ≤ n
  pub alike : (k : ℕ) → way_count outgoing script m k links ≡ way_count outgoing script n k links

-- Where the links of the cards up to n start, and a card before n, if there is one.
pub record TwinAsked (script starts : List ℕ) (seen : Option ℕ) (n : ℕ) : Type 0 where
  pub links : ℕ
  pub leaving : LeavingOf script starts (n + 1) links
  pub few : n < max_cards
  pub before : IfSome seen (λ m. m < n)

-- Each card has such a card, which may be itself.
pub record TwinsOf (script : List ℕ) (cards links : ℕ) (twins : List ℕ) : Type 0 where
  pub room : cards ≤ length twins
  pub each : (n : ℕ) → n < cards → TwinOf script links n (get_or twins n 0)

-- Where the links of the cards start, and room for a card for each.
pub record TwinsAsked (script starts : List ℕ) (cards : ℕ) (twins : List ℕ) : Type 0 where
  pub links : ℕ
  pub leaving : LeavingOf script starts cards links
  pub few : cards ≤ max_cards
  pub room : cards ≤ length twins

-- The list that was lent has them.
pub record TwinsLeft (script starts : List ℕ) (cards : ℕ) (twins₀ twins : List ℕ) : Type 0 where
  pub each : (links : ℕ) → LeavingOf script starts cards links → TwinsOf script cards links twins
  pub size : length twins ≡ length twins₀

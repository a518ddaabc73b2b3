-- The links of one card by themselves, three words each, which stand sorted by kind; no part of a promise.
-- kind_in      the kind of link i of them
-- kinds_in     how many of them have a kind
-- amount      the count of a label: the last labels are listed, the kinds before them are counted off the links
-- KindsRise   whole links, not too many, with kinds that rise
-- KindsPassed   the links before a place have kinds below a number
-- RunOf       so many links from one on are all that have its kind; RunAsked: what counting them asks
-- CountOnAsked, CountOf   what counting a kind off, after another, asks and finds
-- Assumes nothing.
use Rattle.std.specs.Prelude.{ℕ, ◌+◌, ◌-◌, ◌*◌, ◌/◌, ◌≤◌, ◌<◌, ◌≡◌, cond, List, length, get_or, ltb, eqb}
use Rattle.words.specs.Limits.{max_labels, max_links}
use Rattle.board.specs.Grid.{tally}
use Rattle.links.specs.declared.count.KindCount.{KindCount}

-- The kind of link i.
unfoldable pub kind_in : List ℕ → ℕ → ℕ
kind_in links i = get_or links (1 + 3 * i) 0

-- How many of the links have a kind.
unfoldable pub kinds_in : List ℕ → ℕ → ℕ
kinds_in links kind = tally (λ i. eqb (kind_in links i) kind) (length links / 3)

-- The count of a label. The list has those of the last labels: of all, of the incoming ones, or of none.
unfoldable pub amount : List ℕ → List ℕ → ℕ → ℕ
amount links listed label =
    cond (ltb label (max_labels - length listed)) (kinds_in links label)
    (get_or listed (label - (max_labels - length listed)) 0)

-- Whole links, no more than a script has, and no kind is below one before it.
pub record KindsRise (links : List ℕ) : Type 0 where
  pub many : ℕ
  pub size : length links ≡ 3 * many
  pub few : many ≤ max_links
  pub rising : (i j : ℕ) → i ≤ j → j < many → kind_in links i ≤ kind_in links j

-- A place is that of a link's kind, or of the end, and all links before it have kinds below a number.
pub record KindsPassed (links : List ℕ) (bound next : ℕ) : Type 0 where
  pub link : ℕ
  pub place : next ≡ 1 + 3 * link
  pub inside : 3 * link ≤ length links
  pub under : (i : ℕ) → i < link → kind_in links i < bound

-- The links from link `first` on, so many of them, are of a kind, and there are no more of it after them.
pub record RunOf (links : List ℕ) (first kind count : ℕ) : Type 0 where
  pub some : 1 ≤ count
  pub inside : 3 * (first + count) ≤ length links
  pub same : (i : ℕ) → first ≤ i → i < first + count → kind_in links i ≡ kind
  pub other : 3 * (first + count) < length links → kind < kind_in links (first + count)

-- The kind's word of link `first` stands at a place.
pub record RunAsked (links : List ℕ) (at kind : ℕ) : Type 0 where
  pub rise : KindsRise links
  pub first : ℕ
  pub place : at ≡ 1 + 3 * first
  pub inside : at < length links
  pub kind-is : kind_in links first ≡ kind

-- The kinds rise, and none before the place where the last count ended is above the kind that was counted.
pub record CountOnAsked (links : List ℕ) (before : KindCount) : Type 0 where
  pub rise : KindsRise links
  pub passed : KindsPassed links (before.kind + 1) before.next

-- How many of the links have a kind, and where that count ended.
pub record CountOf (links : List ℕ) (kind : ℕ) (found : KindCount) : Type 0 where
  pub exact : found.count ≡ kinds_in links kind
  pub passed : KindsPassed links (found.kind + 1) found.next

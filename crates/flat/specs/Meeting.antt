-- The interval of a flat part, met along the links of a card; no part of a promise.
-- MeetAsked    what going along a card's links asks
-- KindsUnder   the kinds of a card's links are below a number
-- MetAs        what going along them found: an unnamed kind, or the part's interval
-- link_at, demanded          the interval of the link at a place, and 1 if it must be there
-- MetBelow                  the labels below a bound are met
-- LinkAsked, LinkMet        meeting one link; AllMet: what is left where a link is missing
-- LeavingAsked, LeavingAs   going along the links from a card
-- LastLabels, ArrivingAsked, ArrivingAs   going along the counts of the last labels
-- Assumes nothing.
use Rattle.std.specs.Prelude.{ℕ, ◌+◌, ◌-◌, ◌*◌, ◌≤◌, ◌<◌, ◌≡◌, ◌↔◌, Bool, true, false, ◌&&◌, ◌||◌, List, length}
use Rattle.std.specs.Prelude.{get_or, ltb, Option, Some, None}
use Rattle.words.specs.Limits.{max_kinds, max_labels}
use Rattle.bags.specs.Part.{Part}
use Rattle.bags.specs.Interval.{Interval, In, link_interval, interval, others_zero}
use Rattle.bags.specs.Span.{view}
use Rattle.bags.specs.declared.Span.{Span}
use Rattle.board.specs.Grid.{bit, tally}
use Rattle.links.specs.Runs.{kind_in, kinds_in, KindsRise}
use Rattle.flat.specs.Places.{low_at, high_at, must, LinkPlaces}
use Rattle.flat.specs.declared.meet.Found.{Found}

-- The places of links, a card's links sorted by kind, each of an outgoing kind, and counts of incoming kinds at most.
pub record MeetAsked (words places links arriving : List ℕ) : Type 0 where
  pub placed : LinkPlaces words places
  pub rise : KindsRise links
  pub leaving : (i : ℕ) → 3 * i < length links → kind_in links i < max_kinds
  pub few : length arriving ≤ max_kinds

-- The kinds of a card's links are among so many.
pub record KindsUnder (links : List ℕ) (kinds : ℕ) : Type 0 where
  pub few : kinds ≤ max_kinds
  pub below : (i : ℕ) → 3 * i < length links → kind_in links i < kinds

-- A closed shape does not name a kind that counts; or this is the part's interval, and the shape is open or the kinds
-- that it does not name count 0.
abbrev pub MetAs : Bool → ℕ → Part → (ℕ → ℕ) → Option Span → Type 0
MetAs is_open kinds p w None = (is_open ≡ false) × (others_zero kinds p w ≡ false)
MetAs is_open kinds p w (Some span) =
    (view span ≡ interval p w) × ((is_open || others_zero kinds p w) ≡ true)

-- ---- the steps

-- The interval of the link at a place, for a count.
unfoldable pub link_at : List ℕ → ℕ → ℕ → Interval
link_at words place count = link_interval count (low_at words place) (high_at words place)

-- 1 if there is a link at a place, and it must be there; there is none at 0.
unfoldable pub demanded : List ℕ → ℕ → ℕ
demanded words place = bit (ltb 0 place && ltb 0 (low_at words place))

-- Of the labels below a bound those are met that have a link and count more than 0: the span has the numbers that lie
-- in the interval of each, and so many of their links must be there.
pub record MetBelow (words places : List ℕ) (w : ℕ → ℕ) (bound : ℕ) (span : Span) (found : ℕ) : Type 0 where
  pub numbers : (i : ℕ) → In i (view span)
      ↔ ((k : ℕ) → k < bound → 0 < get_or places k 0 → 0 < w k → In i (link_at words (get_or places k 0) (w k)))
  pub count : found ≡ tally (λ k. must words places k && ltb 0 (w k)) bound

-- The words of the link at a place are there, if it is one.
abbrev pub LinkAsked : List ℕ → ℕ → Type 0
LinkAsked words place = 0 < place → place + 3 < length words

-- The interval of the link at a place is met into a span, if there is one.
pub record LinkMet (words : List ℕ) (place count : ℕ) (before after : Span) : Type 0 where
  pub numbers : (i : ℕ) → In i (view after) ↔ (In i (view before) × (0 < place → In i (link_at words place count)))

-- Where fewer links are found than must be there only 0 is left.
pub record AllMet (needed found : ℕ) (before after : Span) : Type 0 where
  pub numbers : (i : ℕ) → In i (view after) ↔ (In i (view before) × (found < needed → i ≡ 0))

-- The places of links, and a card's links sorted by kind, each of an outgoing kind.
pub record LeavingAsked (words places links : List ℕ) : Type 0 where
  pub placed : LinkPlaces words places
  pub rise : KindsRise links
  pub leaving : (i : ℕ) → 3 * i < length links → kind_in links i < max_kinds

-- A closed shape has no link for a kind of the card's; or the outgoing labels are met, and a closed shape has a link
-- for each kind of the card's.
abbrev pub LeavingAs : List ℕ → List ℕ → Bool → List ℕ → Option Found → Type 0
LeavingAs words places is_open links None =
    (is_open ≡ false) × ((i : ℕ) × (3 * i < length links) × (get_or places (kind_in links i) 0 ≡ 0))
LeavingAs words places is_open links (Some first) =
    MetBelow words places (kinds_in links) max_kinds first.span first.found
    × (is_open ≡ false → (i : ℕ) → 3 * i < length links → 0 < get_or places (kind_in links i) 0)

-- The places of links, counts of incoming kinds at most, and no more links found than there are outgoing kinds.
pub record ArrivingAsked (words places arriving : List ℕ) (found : ℕ) : Type 0 where
  pub placed : LinkPlaces words places
  pub few : length arriving ≤ max_kinds
  pub found-few : found ≤ max_kinds

-- The list has the counts of the last labels.
abbrev pub LastLabels : List ℕ → (ℕ → ℕ) → Type 0
LastLabels arriving w = (k : ℕ) → k < length arriving → w (max_labels - length arriving + k) ≡ get_or arriving k 0

-- Where the labels before the last ones are met, all are.
abbrev pub ArrivingAs : List ℕ → List ℕ → List ℕ → Found → Found → Type 0
ArrivingAs words places arriving before after =
    (w : ℕ → ℕ) → LastLabels arriving w
    → MetBelow words places w (max_labels - length arriving) before.span before.found
    → MetBelow words places w max_labels after.span after.found

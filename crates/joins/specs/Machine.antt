-- What joining the parts of a run asks, and what counting a label finds; no part of a promise.
-- Source         what counting labels asks
-- CountAsked     the same, after a kind that was counted; LabelCounted: the count of a label
-- JoinAsked      what joining a link with the parts before it asks
-- TakeAsked      what taking the next links of a run asks
-- Assumes nothing.
use Rattle.std.specs.Prelude.{ℕ, ◌+◌, ◌≤◌, ◌≡◌, List, length}
use Rattle.words.specs.Limits.{max_labels, max_template}
use Rattle.bags.specs.Span.{Small}
use Rattle.bags.specs.declared.Span.{Span}
use Rattle.links.specs.Runs.{amount, KindsRise, KindsPassed}
use Rattle.joins.specs.Evaluation.{Begins, LinkHere}
use Rattle.joins.specs.declared.Eval.{Eval}

-- The links of a card, sorted by kind, and a list with the counts of the last labels.
pub record Source (links counts : List ℕ) : Type 0 where
  pub rise : KindsRise links
  pub few : length counts ≤ max_labels

-- A kind was counted off the links, up to a place.
pub record CountAsked (links counts : List ℕ) (kind next : ℕ) : Type 0 where
  pub source : Source links counts
  pub passed : KindsPassed links (kind + 1) next

-- How many links have a label, and up to which place a kind is counted.
pub record LabelCounted (links counts : List ℕ) (label count kind next : ℕ) : Type 0 where
  pub exact : count ≡ amount links counts label
  pub passed : KindsPassed links (kind + 1) next

-- A link stands at a place of a template's words, and the span of the parts before it can be added to.
pub record JoinAsked (words : List ℕ) (at : ℕ) (x : Span) : Type 0 where
  pub here : LinkHere words at
  pub short : length words ≤ max_template
  pub small : Small 1000000000 x

-- The first parts of a run are evaluated.
pub record TakeAsked (words links counts : List ℕ) (left code : ℕ) (before : Eval) : Type 0 where
  pub short : length words ≤ max_template
  pub source : Source links counts
  pub at : ℕ
  pub done : ℕ
  pub begun : Begins (amount links counts) words left at code done before

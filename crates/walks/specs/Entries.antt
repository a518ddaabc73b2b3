-- What the entries of a row of the table of names make good; no part of a promise.
-- EntryGood    the pair that an entry names for the card at a base
-- LedGood      the pair that a link leads to, by the entry that a row has for its kind
-- RowAsked     what going along links by a row asks
-- Assumes nothing.
use Rattle.std.specs.Prelude.{ℕ, suc, ◌+◌, ◌*◌, ◌≤◌, ◌<◌, ◌≡◌, List, length, get_or}
use Rattle.words.specs.Limits.{max_links}
use Rattle.words.specs.Sizes.{max_grid}
use Rattle.bags.specs.Label.{Way}
use Rattle.script.specs.Link.{kind_at, far_at}

-- The pair that an entry names for the card at `base`: none where it is 0.
pub record EntryGood (entry base p : ℕ) : Type 0 where
  pub shape : ℕ
  pub names-it : entry ≡ suc shape
  pub at : p ≡ base + shape

-- The pair that link i leads to, seen one way: the shape is the one that a row names for the link's kind.
abbrev pub LedGood : Way → List ℕ → List ℕ → ℕ → ℕ → ℕ → Type 0
LedGood way script row shapes i p = EntryGood (get_or row (kind_at script i) 0) (far_at way script i * shapes) p

-- What going along links by a row asks of the script, of the row, and of a grid of so many places: each link seen this
-- way leads to a card, and each entry names a shape or none.
pub record RowAsked (way : Way) (script row : List ℕ) (shapes places : ℕ) : Type 0 where
  pub few-links : get_or script 1 0 ≤ max_links
  pub words : 2 + 3 * get_or script 1 0 ≤ length script
  pub kinds : (i : ℕ) → i < get_or script 1 0 → kind_at script i < length row
  pub few-places : places ≤ max_grid
  pub led : (i p : ℕ) → i < get_or script 1 0 → LedGood way script row shapes i p → p < places
  pub cards : (i : ℕ) → i < get_or script 1 0 → far_at way script i * shapes ≤ places

-- What the inner functions of "Fit counts" ask; no part of a promise.
-- OthersAsked           what looking over the kinds that a row does not name asks
-- Testable              what testing counts against a shape asks
-- SpreadAsked, Spread   what spreading a list of counts over all labels asks and leaves
-- NamesRead             what is known of a template that was read into a table of names
-- Assumes nothing.
use Rattle.std.specs.Prelude.{ℕ, ◌+◌, ◌*◌, ◌≤◌, ◌<◌, ◌≡◌, List, [], ◌∷◌, length, replicate}
use Rattle.words.specs.Said.{values}
use Rattle.words.specs.Limits.{max_kinds, max_labels, max_template, max_depth}
use Rattle.words.specs.Sizes.{table_size}
use Rattle.words.specs.Reading.{accepted}
use Rattle.bags.specs.Bag.{count}
use Rattle.bags.specs.Look.{listed}
use Rattle.template.specs.Template.{part_at, Template, read_template, template_says}
use Rattle.template.specs.Machine.{Tabled}
use Rattle.trees.specs.Trees.{tree_at}
use Rattle.evaluator.specs.Rows.{RowOf}

-- A row and counts, with an entry and a count for each of so many kinds.
pub record OthersAsked (row counts : List ℕ) (kinds : ℕ) : Type 0 where
  pub kinds-in : kinds ≤ length row
  pub counted : kinds ≤ length counts

-- The shape whose count of words stands at `at` has a word, the row has its names for each outgoing kind, and each
-- label has a count.
pub record Testable (words : List ℕ) (at : ℕ) (row counts : List ℕ) (kinds : ℕ) : Type 0 where
  pub words-high : length words ≤ max_template
  pub at_in : at + 1 < length words
  pub kinds-in : kinds ≤ length row
  pub few : kinds ≤ max_labels
  pub counted : length counts ≡ max_labels
  pub row_of : RowOf row kinds (tree_at max_depth words (part_at words at)).value

-- A list with the counts of so many kinds each way, and room for a count of each label, all 0.
pub record SpreadAsked (counts : List ℕ) (kinds : ℕ) (labels : List ℕ) : Type 0 where
  pub few : kinds ≤ max_kinds
  pub each_way : length counts ≡ 2 * kinds
  pub zeros : labels ≡ replicate max_labels 0

-- A count of each label, as the list has it.
pub record Spread (counts : List ℕ) (kinds : ℕ) (labels : List ℕ) : Type 0 where
  pub full : length labels ≡ max_labels
  pub exact : (k : ℕ) → count labels k ≡ listed kinds counts k

-- A template was read with these counts of kinds and shapes, and the table has its names.
pub record NamesRead (template names : List ℕ) (kinds shapes : ℕ) : Type 0 where
  pub said : values (kinds ∷ shapes ∷ []) ≡ template_says template
  pub size : length names ≡ table_size
  pub table : (t : Template) → read_template template ≡ accepted t → Tabled t.parts names

-- What counting the cards with some link and no shape asks; no part of a promise.
-- CountedAs     a sheet has these words of its script and these counts
-- Rows          a grid has a row of shapes for each card, and links are among the cards
-- Assumes nothing.
use Rattle.std.specs.Prelude.{ℕ, ◌*◌, ◌≤◌, ◌≡◌, List, length}
use Rattle.words.specs.Limits.{max_cards, max_shapes}
use Rattle.links.specs.Marks.{LinksAmong}
use Rattle.sheet.specs.Sheet.{Sheet}
use Rattle.sheet.specs.declared.Extent.{Extent}

-- The sheet's script has these words, and its counts are these.
pub record CountedAs (s : Sheet) (script : List ℕ) (e : Extent) : Type 0 where
  pub words : s.script ≡ script
  pub links : s.links ≡ e.links
  pub cards : s.cards ≡ e.cards
  pub shapes : s.shapes ≡ e.shapes

-- The script's links are among its cards, and the grid has a row of shapes for each of these, as many as a sheet can
-- have.
pub record Rows (script : List ℕ) (e : Extent) (grid : List ℕ) : Type 0 where
  pub among : LinksAmong script e.links e.cards
  pub full : length grid ≡ e.cards * e.shapes
  pub few-cards : e.cards ≤ max_cards
  pub few-shapes : e.shapes ≤ max_shapes

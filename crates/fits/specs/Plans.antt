-- How a shape is tested on a card; no part of a promise.
-- PlanAsked   what looking a shape over asks
-- FlatPlan    the plan of a shape with a flat core; PlanOf: the plan of the shape whose count of words stands there
-- NamesAsked  what looking up the kinds of a card's links in a row of names asks
-- CardReady   what testing a card's links asks; CardFits: what the test says
-- Assumes nothing.
use Rattle.std.specs.Prelude.{ℕ, ◌+◌, ◌-◌, ◌*◌, ◌≤◌, ◌<◌, ◌≡◌, Bool, Some, List, length, replicate}
use Rattle.words.specs.Limits.{max_kinds, max_labels, max_template, max_depth}
use Rattle.words.specs.Reading.{accepted}
use Rattle.bags.specs.Interval.{fits}
use Rattle.template.specs.Template.{open_at, part_at, shape_place, Template, read_template}
use Rattle.links.specs.Runs.{kind_in, amount, KindsRise}
use Rattle.flat.specs.Places.{Surveyed}
use Rattle.flat.specs.Meeting.{KindsUnder}
use Rattle.trees.specs.Trees.{tree_at}
use Rattle.trees.specs.Wrappers.{WrapAsked}
use Rattle.evaluator.specs.Rows.{RowOf}
use Rattle.fits.specs.declared.Plan.{Plan}
use Rattle.fits.specs.declared.ShapeTest.{ShapeTest}

-- A shape of a template that is read stands there, and no label has a place yet.
pub record PlanAsked (template : List ℕ) (at : ℕ) (places : List ℕ) : Type 0 where
  pub whole : Template
  pub read : read_template template ≡ accepted whole
  pub shape : ℕ
  pub below : shape < whole.shapes
  pub place : at ≡ shape_place template shape 2
  pub blank : places ≡ replicate max_labels 0

-- The core of the part is flat: wrappers stand before it, its links have their places, and so many must be there.
pub record FlatPlan (template places : List ℕ) (plan : Plan) (needed : ℕ) : Type 0 where
  pub wrap : WrapAsked template plan.start plan.core
  pub left : ℕ
  pub level : left + (plan.core - plan.start) ≡ max_depth
  pub surveyed : Surveyed template (tree_at left template plan.core).value places needed

-- The plan of the shape whose count of words stands at a place.
pub record PlanOf (template : List ℕ) (at : ℕ) (places : List ℕ) (plan : Plan) : Type 0 where
  pub is_open : plan.opened ≡ open_at template at
  pub start : plan.start ≡ part_at template at
  pub flat : (needed : ℕ) → plan.needed ≡ Some needed → FlatPlan template places plan needed

-- A row of names for all labels, and a card's links, each of an outgoing kind.
pub record NamesAsked (row links : List ℕ) : Type 0 where
  pub full : length row ≡ max_labels
  pub rise : KindsRise links
  pub leaving : (i : ℕ) → 3 * i < length links → kind_in links i < max_kinds

-- Such a row and such links, a plan, and counts of incoming kinds at most.
pub record CardReady (template : List ℕ) (shape : ShapeTest) (links arriving : List ℕ) : Type 0 where
  pub short : length template ≤ max_template
  pub flat : (needed : ℕ) → shape.plan.needed ≡ Some needed
      → FlatPlan template shape.places.now shape.plan needed
  pub names : NamesAsked shape.row.now links
  pub few : length arriving ≤ max_kinds

-- Whether the counts fit the part of the plan, where the row has the part's names.
abbrev pub CardFits : List ℕ → ShapeTest → List ℕ → List ℕ → Bool → Type 0
CardFits template shape links arriving r =
    (kinds : ℕ) → RowOf shape.row.now kinds (tree_at max_depth template shape.plan.start).value
    → KindsUnder links kinds
    → r ≡ fits shape.plan.opened kinds (tree_at max_depth template shape.plan.start).value (amount links arriving)

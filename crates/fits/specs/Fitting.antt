-- What testing a sheet's pairs by counts asks and leaves behind; no part of a promise.
-- LinksFound  where the links from each card stand and, if some shape names an incoming kind, those to it
-- LinksKnown  the same of what is lent
-- GridReady   what testing all cards under all shapes asks
-- Named       a row has the names of the shape whose count of words stands at a place
-- ShapeReady, PairReady     what testing all cards, and one card, under a shape asks
-- WaysAsked, WaysSeen       what looking for incoming kinds in a row asks and says
-- byte_of      the byte of a shape, open or closed, for some counts: 1 where they fit it
-- byte_at      the byte of a pair: by the counts of the card's links
-- PairFits    what the test of a pair says; ShapeFits: of a sheet that is lent
-- ColumnFitted, Fitted      a grid has that byte for each card under a shape, and for each pair
-- GridFitted  the grid of a sheet that is lent has it
-- Assumes nothing.
use Rattle.std.specs.Prelude.{ℕ, ◌+◌, ◌*◌, ◌≤◌, ◌<◌, ◌≡◌, Bool, true, false, cond, List, length, get_or}
use Rattle.words.specs.Limits.{max_kinds, max_labels, max_depth}
use Rattle.words.specs.Reading.{accepted}
use Rattle.bags.specs.Label.{incoming, label_of}
use Rattle.bags.specs.Part.{Part}
use Rattle.bags.specs.Interval.{fits}
use Rattle.bags.specs.Proposition.{label_count}
use Rattle.template.specs.Template.{part_at, shape_place, opens, read_template}
use Rattle.script.specs.Link.{neighbours}
use Rattle.links.specs.Index.{StartsOf, ArrivalsOf}
use Rattle.links.specs.declared.index.CardLinks.{CardLinks}
use Rattle.twins.specs.Twins.{TwinsOf}
use Rattle.sheet.specs.declared.Extent.{Extent}
use Rattle.sheet.specs.declared.ReadSheet.{ReadSheet}
use Rattle.sheet.specs.Opened.{template_as, Opened, SheetKnown}
use Rattle.trees.specs.Trees.{tree_at}
use Rattle.evaluator.specs.Rows.{RowOf}
use Rattle.fits.specs.declared.Plan.{Plan}
use Rattle.fits.specs.declared.ShapeTest.{ShapeTest}
use Rattle.fits.specs.Plans.{PlanOf}

-- Where the links to each card stand, if some shape names an incoming kind.
abbrev pub NamedArrivals : List ℕ → Extent → List ℕ → List ℕ → Type 0
NamedArrivals script e first next = e.incoming ≡ true → ArrivalsOf script first next e.cards e.links

-- And where the links from each card stand.
pub record LinksFound (script : List ℕ) (e : Extent) (starts first next : List ℕ) : Type 0 where
  pub leaving : StartsOf script starts e.cards e.links
  pub arriving : NamedArrivals script e first next

-- The same of what is lent.
abbrev pub LinksKnown : ReadSheet → CardLinks → Type 0
LinksKnown sheet links =
    LinksFound sheet.script.now sheet.extent links.starts.now links.chains.first.now links.chains.next.now

-- A sheet that is read, where its links stand, and a grid with a byte for each pair.
pub record GridReady (sheet : ReadSheet) (links : CardLinks) (grid : List ℕ) : Type 0 where
  pub known : SheetKnown sheet
  pub standing : LinksKnown sheet links
  pub size : length grid ≡ sheet.extent.cards * sheet.extent.shapes

-- No entry of a row for all labels is for an incoming kind, where the sheet is said to name none.
pub record WaysAsked (row : List ℕ) (e : Extent) : Type 0 where
  pub full : length row ≡ max_labels
  pub few : e.kinds ≤ max_kinds
  pub ways : e.incoming ≡ false → (k : ℕ) → k < max_kinds → get_or row (label_of incoming k) 0 ≡ 0

-- The row has an entry for an incoming kind, of a sheet that names some; or it has none.
pub record WaysSeen (row : List ℕ) (e : Extent) (back : Bool) : Type 0 where
  pub yes : back ≡ true → e.incoming ≡ true
  pub no : back ≡ false → (k : ℕ) → k < e.kinds → get_or row (label_of incoming k) 0 ≡ 0

-- The row of the shape t, whose count of words stands at a place, has the names of its part.
pub record Named (template row : List ℕ) (e : Extent) (t at : ℕ) : Type 0 where
  pub below : t < e.shapes
  pub place : at ≡ shape_place template t 2
  pub names : RowOf row max_labels (tree_at max_depth template (part_at template at)).value
  pub asked : WaysAsked row e

-- A sheet that is read, where its links stand, the cards' twins, a shape whose count of words stands at a place, and a
-- grid with a byte for each pair.
pub record ShapeReady (sheet : ReadSheet) (links : CardLinks) (twins : List ℕ) (t at : ℕ) (grid : List ℕ)
    : Type 0 where
  pub known : SheetKnown sheet
  pub standing : LinksKnown sheet links
  pub alike : TwinsOf sheet.script.now sheet.extent.cards sheet.extent.links twins
  pub below : t < sheet.extent.shapes
  pub place : at ≡ shape_place sheet.template.now t 2
  pub size : length grid ≡ sheet.extent.cards * sheet.extent.shapes

-- A sheet that is read, where its links stand, a shape of it with its plan, and a card.
pub record PairReady (sheet : ReadSheet) (links : CardLinks) (shape : ShapeTest) (back : Bool) (n : ℕ) : Type 0 where
  pub opened : Opened sheet.template.now sheet.script.now sheet.extent
  pub standing : LinksKnown sheet links
  pub t : ℕ
  pub at : ℕ
  pub named : Named sheet.template.now shape.row.now sheet.extent t at
  pub planned : PlanOf sheet.template.now at shape.places.now shape.plan
  pub seen : WaysSeen shape.row.now sheet.extent back
  pub below : n < sheet.extent.cards

-- The byte of a shape for some counts: 1 where those that it looks at fit it, else 0.
abbrev byte_of : Bool → ℕ → Part → (ℕ → ℕ) → ℕ
byte_of is_open kinds part w = cond (fits is_open kinds part w) 1 0

-- The byte of card n under a shape, by the counts of its links.
abbrev pub byte_at : List ℕ → Extent → Bool → Part → ℕ → ℕ
byte_at script e is_open part n = byte_of is_open e.kinds part (label_count (neighbours script n e.links))

-- Whether the links of card n fit the part of a plan.
abbrev pub PairFits : List ℕ → List ℕ → Extent → Plan → ℕ → Bool → Type 0
PairFits template script e plan n r =
    r ≡ fits plan.opened e.kinds (tree_at max_depth template plan.start).value
    (label_count (neighbours script n e.links))

-- The same of a shape of a sheet that is lent.
abbrev pub ShapeFits : ReadSheet → ShapeTest → ℕ → Bool → Type 0
ShapeFits sheet shape n r = PairFits sheet.template.now sheet.script.now sheet.extent shape.plan n r

-- A grid of bytes: at n × shapes + t, the byte of card n under the shape t.
pub record Fitted (template script : List ℕ) (e : Extent) (parts : List Part) (grid : List ℕ) : Type 0 where
  pub full : length grid ≡ e.cards * e.shapes
  pub each : (n t : ℕ) → n < e.cards → t < e.shapes
      → get_or grid (n * e.shapes + t) 0 ≡ byte_at script e (opens template t) (get_or parts t Part.nothing) n

-- The column of the shape t has its bytes, and the others are as they were.
pub record ColumnFitted (template script : List ℕ) (e : Extent) (t : ℕ) (before grid : List ℕ) : Type 0 where
  pub full : length grid ≡ e.cards * e.shapes
  pub each : (parts : List Part) → read_template template ≡ accepted (template_as e.kinds e.shapes parts)
      → (n : ℕ) → n < e.cards
      → get_or grid (n * e.shapes + t) 0 ≡ byte_at script e (opens template t) (get_or parts t Part.nothing) n
  pub others : (n s : ℕ) → n < e.cards → s < e.shapes → (s ≡ t → ⊥)
      → get_or grid (n * e.shapes + s) 0 ≡ get_or before (n * e.shapes + s) 0

-- The grid of a sheet has the byte of each pair.
abbrev pub GridFitted : ReadSheet → List ℕ → Type 0
GridFitted sheet grid = (parts : List Part)
    → read_template sheet.template.now ≡ accepted (template_as sheet.extent.kinds sheet.extent.shapes parts)
    → Fitted sheet.template.now sheet.script.now sheet.extent parts grid

-- What testing the pairs of a sheet asks for and leaves; no part of a promise.
-- ArrivalsAsked what chaining the links to each card asks; ArrivalsChained: and leaves
-- SheetGrid     a sheet that is read, with a grid of its size; TestAsked: what testing the pairs asks
-- SheetTested   a sheet that is read, its table of names, and the grid of the pairs that fit by counts
-- ReadsTo, TestedAs   a sheet that is lent is read as one, and tested so
-- SomeTested    some sheet is tested, and where its links stand is known
-- walk_on       what a search on a sheet goes by
-- PairsTested   what testing the pairs leaves: some sheet is tested so, and each that the readings ask for
-- Assumes nothing.
use Rattle.std.specs.Prelude.{ℕ, ◌*◌, ◌≤◌, ◌≡◌, List, length}
use Rattle.words.specs.Limits.{max_cards, max_links}
use Rattle.words.specs.Reading.{accepted}
use Rattle.links.specs.Index.{ArrivalsOf, ChainAsked}
use Rattle.links.specs.declared.index.CardLinks.{CardLinks}
use Rattle.links.specs.declared.index.Chains.{Chains}
use Rattle.sheet.specs.Sheet.{Sheet, read_sheet}
use Rattle.sheet.specs.Opened.{Known, SheetKnown}
use Rattle.sheet.specs.declared.Extent.{Extent}
use Rattle.sheet.specs.declared.ReadSheet.{ReadSheet}
use Rattle.walks.specs.declared.walk.Walk.{Walk}
use Rattle.fits.specs.Fitting.{NamedArrivals, LinksFound, Fitted}

-- What chaining the links to each card asks.
pub record ArrivalsAsked (script : List ℕ) (e : Extent) (first next : List ℕ) : Type 0 where
  pub chaining : ChainAsked script e.links first next
  pub few-cards : e.cards ≤ max_cards

-- Where the links to each card then stand, in arrays of the same length.
pub record ArrivalsChained (script : List ℕ) (e : Extent) (first next : List ℕ) : Type 0 where
  pub arriving : ArrivalsOf script first next e.cards e.links
  pub heads : length first ≡ max_cards
  pub nexts : length next ≡ max_links

-- A sheet with its table of names, and a grid of its size.
pub record SheetGrid (sheet : ReadSheet) (grid : List ℕ) : Type 0 where
  pub known : SheetKnown sheet
  pub size : length grid ≡ sheet.extent.cards * sheet.extent.shapes

-- What testing the pairs asks: such a sheet and grid, and where the links to each card stand.
pub record TestAsked (sheet : ReadSheet) (chains : Chains) (grid : List ℕ) : Type 0 where
  pub sized : SheetGrid sheet grid
  pub arriving : NamedArrivals sheet.script.now sheet.extent chains.first.now chains.next.now

-- The sheet s is read from some template and the script, and the grid is 1 where the counts of a pair fit, else 0.
pub record SheetTested (s : Sheet) (script names : List ℕ) (e : Extent) (fitting : List ℕ) : Type 0 where
  pub template : List ℕ
  pub known : Known template script names e
  pub asked : read_sheet template script ≡ accepted s
  pub fits : Fitted template script e s.parts fitting

-- The template and the script of a sheet that is lent are read as the sheet s.
abbrev pub ReadsTo : ReadSheet → Sheet → Type 0
ReadsTo lent s = read_sheet lent.template.now lent.script.now ≡ accepted s

-- A sheet that is lent is tested so.
abbrev pub TestedAs : Sheet → ReadSheet → List ℕ → Type 0
TestedAs s sheet fitting = SheetTested s sheet.script.now sheet.names.now sheet.extent fitting

-- Some sheet is tested so, and where its links stand is known.
pub record SomeTested (lent : ReadSheet) (starts : List ℕ) (chains : Chains) (fitting : List ℕ) : Type 0 where
  pub sheet : Sheet
  pub tested : TestedAs sheet lent fitting
  pub links : LinksFound lent.script.now lent.extent starts chains.first.now chains.next.now

-- What testing the pairs leaves: some sheet is tested so, and each that the readings ask for is.
pub record PairsTested (lent : ReadSheet) (starts : List ℕ) (chains : Chains) (fitting : List ℕ) : Type 0 where
  pub some : SomeTested lent starts chains fitting
  pub tested : (s : Sheet) → ReadsTo lent s → TestedAs s lent fitting

-- What a search on a sheet goes by.
abbrev pub walk_on : ReadSheet → CardLinks → Walk
walk_on sheet links = record {
  script = sheet.script;
  starts = links.starts;
  first = links.chains.first;
  next = links.chains.next;
  names = sheet.names;
  shapes = sheet.extent.shapes;
  incoming = sheet.extent.incoming;
}

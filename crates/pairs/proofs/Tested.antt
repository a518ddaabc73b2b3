-- The grid of a sheet's pairs that fit stands for the sheet.
--   pairs-tested                    what testing them leaves is that grid, for each sheet that is read, and some is
--   cards-same, shapes-same, counted-as   the sheet's counts, and its words, are those that are read
--   full, full-words, few           the grid has the sheet's size, which the script's words tell too
--   marks                           the grid's bytes are 0 or 1
--   stands                          the board of script, table of names and grid stands for the sheet
-- Assumes nothing.
use Prim.Native.Nat.{ℕ, ◌+◌, ◌*◌, ◌/◌, ◌%◌, ◌≤◌, ◌<◌}
use mathlib.Core.Path.{◌≡◌, sym, ap, ◌∙◌, subst}
use mathlib.Core.Logic.{◌⊎◌, inl, inr}
use mathlib.Core.Bool.{Bool, true, false, cond}
use mathlib.Core.List.{List}
use native.Mathlib.Omega.{arith}
use lib.ListN.{length, get_or}
use Rattle.bags.specs.Part.{Part}
use Rattle.bags.specs.Interval.{fits}
use Rattle.bags.specs.Proposition.{label_count}
use Rattle.words.specs.Sizes.{max_grid}
use Rattle.words.specs.Reading.{accepted}
use Rattle.words.proofs.Places.{card-in, shape-in, place_of}
use Rattle.board.specs.Machine.{Marks}
use Rattle.links.specs.declared.index.Chains.{Chains}
use Rattle.template.specs.Template.{opens}
use Rattle.script.specs.Link.{neighbours}
use Rattle.sheet.specs.Sheet.{Sheet, size, read_sheet}
use Rattle.sheet.specs.Opened.{SheetKnown}
use Rattle.sheet.specs.declared.Extent.{Extent}
use Rattle.sheet.specs.declared.ReadSheet.{ReadSheet}
use Rattle.typing.specs.Needs.{board_of}
use Rattle.typing.proofs.Represents.{Represents}
use Rattle.typing.proofs.Instance.{FitsGrid, fits-grid, represents}
use Rattle.fits.specs.Fitting.{LinksFound, Fitted, GridFitted}
use Rattle.bare.specs.Rows.{CountedAs}
use Rattle.bare.proofs.Rows.{byte-on}
use Rattle.lent.proofs.KnownSheet.{sheet, asked, same-sheet, read, few-pairs}
use Rattle.pairs.specs.Pairs.{SheetTested, TestedAs, PairsTested}
use Rattle.pairs.proofs.Links.{tabled, rows}

-- What testing the pairs leaves.
pub pairs-tested : {lent : ReadSheet} {starts : List ℕ} {chains : Chains} {fitting : List ℕ} (k : SheetKnown lent)
    → LinksFound lent.script.now lent.extent starts chains.first.now chains.next.now → GridFitted lent fitting
    → PairsTested lent starts chains fitting
pairs-tested {lent} {fitting = fitting} k links fit = record {
  some = record { sheet = sheet k; tested = each (sheet k) (asked k); links = links };
  tested = each;
}
  where
    each : (s : Sheet) → read_sheet lent.template.now lent.script.now ≡ accepted s → TestedAs s lent fitting
    each s q = record {
      template = lent.template.now;
      known = k;
      asked = q;
      fits = subst (λ (x : Sheet). Fitted lent.template.now lent.script.now lent.extent x.parts fitting)
          (same-sheet k s q) (fit k.opened.parts k.opened.template-read);
    }

-- the byte of a pair is 0 or 1
byte_one : {x : ℕ} (b : Bool) → x ≡ cond b 1 0 → (x ≡ 0) ⊎ (x ≡ 1)
byte_one true h = inr h
byte_one false h = inl h

module _ {s : Sheet} {script names : List ℕ} {e : Extent} {grid : List ℕ} (t : SheetTested s script names e grid) where
  same : sheet t.known ≡ s
  same = same-sheet t.known s t.asked

  pub cards-same : s.cards ≡ e.cards
  cards-same = sym (ap (λ (x : Sheet). x.cards) same)

  pub shapes-same : s.shapes ≡ e.shapes
  shapes-same = sym (ap (λ (x : Sheet). x.shapes) same)

  pub counted-as : CountedAs s script e
  counted-as = record {
    words = sym (ap (λ (x : Sheet). x.script) same);
    links = sym (ap (λ (x : Sheet). x.links) same);
    cards = cards-same;
    shapes = shapes-same;
  }

  pub full : length grid ≡ size s
  full = rw (cards-same, shapes-same) t.fits.full

  pub full-words : length grid ≡ get_or script 0 0 * e.shapes
  full-words = t.fits.full ∙ ap (λ (n : ℕ). n * e.shapes) (read t.known).links.cards

  pub few : length grid ≤ max_grid
  few = omega (arith, t.fits.full, few-pairs t.known)

  fitted : Fitted t.template script e t.known.opened.parts grid
  fitted = rw (ap (λ (x : Sheet). x.parts) same) t.fits

  pub marks : Marks grid
  marks p l =
      let one = (read t.known).shapes.shapes-low in
      let inside : p < e.cards * e.shapes = omega (arith, t.fits.full) in
      let shape = p % e.shapes in
      let part = get_or s.parts shape Part.nothing in
      let counts = label_count (neighbours script (p / e.shapes) e.links) in
      subst (λ (x : ℕ). (get_or grid x 0 ≡ 0) ⊎ (get_or grid x 0 ≡ 1)) (place_of e.shapes one p)
      (byte_one (fits (opens t.template shape) e.kinds part counts) (t.fits.each (p / e.shapes) shape
      (card-in e.shapes one e.cards p inside) (shape-in e.shapes one p)))

  fits-right : FitsGrid (sheet t.known) grid
  fits-right = fits-grid (read t.known) grid (λ n u ln lu.
      byte-on grid (n * e.shapes + u) _ (fitted.each n u ln lu))

  pub stands : Represents s (board_of script names e.shapes grid)
  stands =
      subst (λ (x : Sheet). Represents x (board_of script names e.shapes grid)) same
      (represents (read t.known) names (tabled t.known) (rows t.known) grid fits-right)

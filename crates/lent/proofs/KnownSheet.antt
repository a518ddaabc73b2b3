-- What a sheet that is read with its table of names has.
--   sheet, asked, same-sheet   the sheet that is read, and that no other is
--   read                       what its template and its script passed
--   few-pairs                  it has at most 32,768 pairs
-- Assumes nothing.
use Prim.Native.Nat.{ℕ, ◌*◌, ◌≤◌}
use mathlib.Core.Path.{◌≡◌, sym, ◌∙◌}
use mathlib.Core.List.{List}
use native.Mathlib.Nat.{mul-le-mul}
use Rattle.words.specs.Sizes.{max_grid}
use Rattle.words.specs.Reading.{accepted}
use Rattle.words.proofs.Readings.{accepted-same}
use Rattle.template.specs.Template.{Template}
use Rattle.script.specs.Script.{ScriptCounts, counts_of}
use Rattle.sheet.specs.Sheet.{Sheet, sheet_of, read_sheet}
use Rattle.sheet.specs.Opened.{template_as, Known}
use Rattle.sheet.specs.declared.Extent.{Extent}
use Rattle.sheet.proofs.Accepted.{SheetAccepted, sheet-asked, sheet-made}

module _ {template script names : List ℕ} {e : Extent} (k : Known template script names e) where
  abbrev pub shaped : Template
  shaped = template_as e.kinds e.shapes k.opened.parts

  abbrev counts : ScriptCounts
  counts = counts_of e.cards e.links

  abbrev pub sheet : Sheet
  sheet = sheet_of template shaped counts script

  pub asked : read_sheet template script ≡ accepted sheet
  asked = sheet-asked template script shaped counts k.opened.template-read k.opened.script-read

  pub same-sheet : (s : Sheet) → read_sheet template script ≡ accepted s → sheet ≡ s
  same-sheet s q = accepted-same (sym asked ∙ q)

  pub read : SheetAccepted template e.kinds sheet
  read = sheet-made template script shaped counts k.opened.template-read k.opened.script-read

  pub few-pairs : e.cards * e.shapes ≤ max_grid
  few-pairs = mul-le-mul read.links.cards-bound read.shapes.shapes-high

-- What reading a template and a script leaves behind; no part of a promise.
-- template_as    the template of these counts and parts
-- Opened        both files are read; TableOf: the table of names is the template's
-- OnlyOutgoing  no shape names an incoming kind
-- Known         what a step on a sheet that is read asks: both files, the table of names, and its room
-- SheetKnown    the same of a sheet that is lent
-- ReadAs        what reading the two finds: known, or the first refusal
-- WaysAsked     what looking for incoming kinds in the table asks
-- Assumes nothing.
use Rattle.std.specs.Prelude.{ℕ, ◌≤◌, ◌<◌, ◌≡◌, false, List, length, Result, Ok, Err}
use Rattle.words.specs.Limits.{max_kinds, max_shapes}
use Rattle.words.specs.Sizes.{table_size}
use Rattle.words.specs.Reading.{accepted, turned_down}
use Rattle.bags.specs.Label.{incoming, label_of}
use Rattle.bags.specs.Part.{Part}
use Rattle.template.specs.Template.{Template, read_template}
use Rattle.template.specs.Machine.{Tabled, entry_at}
use Rattle.script.specs.Script.{counts_of, read_script}
use Rattle.sheet.specs.Sheet.{read_sheet}
use Rattle.sheet.specs.declared.Extent.{Extent}
use Rattle.sheet.specs.declared.ReadSheet.{ReadSheet}
use Rattle.words.specs.Refused.{number}
use Rattle.words.specs.declared.refusal.Refusal.{Refusal}

-- The template of these counts and parts.
abbrev pub template_as : ℕ → ℕ → List Part → Template
template_as kinds shapes parts = record { kinds = kinds; shapes = shapes; parts = parts }

-- Both files are read, with these counts.
pub record Opened (template script : List ℕ) (e : Extent) : Type 0 where
  pub parts : List Part
  pub template-read : read_template template ≡ accepted (template_as e.kinds e.shapes parts)
  pub script-read : read_script e.kinds script ≡ accepted (counts_of e.cards e.links)

-- The table of names is that of the template's shapes.
abbrev pub TableOf : List ℕ → List ℕ → Type 0
TableOf template names = (t : Template) → read_template template ≡ accepted t → Tabled t.parts names

-- No entry of the table is for one of so many incoming kinds.
abbrev pub OnlyOutgoing : List ℕ → ℕ → ℕ → Type 0
OnlyOutgoing names shapes kinds = (t k : ℕ) → t < shapes → k < kinds → entry_at names t (label_of incoming k) ≡ 0

-- What a step on a sheet that is read asks: both files are read, and the table of names is the template's, in full.
-- Where the sheet is said to name no incoming kinds, it names none.
pub record Known (template script names : List ℕ) (e : Extent) : Type 0 where
  pub opened : Opened template script e
  pub table : TableOf template names
  pub room : length names ≡ table_size
  pub ways : e.incoming ≡ false → OnlyOutgoing names e.shapes max_kinds

-- The same of a sheet that is lent.
abbrev pub SheetKnown : ReadSheet → Type 0
SheetKnown sheet = Known sheet.template.now sheet.script.now sheet.names.now sheet.extent

-- What reading the two files, with the table of names, finds.
abbrev pub ReadAs : List ℕ → List ℕ → List ℕ → Result Extent Refusal → Type 0
ReadAs template script names (Ok e) = Known template script names e
ReadAs template script names (Err r) = read_sheet template script ≡ turned_down (number r.0) r.1

-- A table of names in full, and counts within their limits.
pub record WaysAsked (names : List ℕ) (kinds shapes : ℕ) : Type 0 where
  pub room : length names ≡ table_size
  pub few-kinds : kinds ≤ max_kinds
  pub few-shapes : shapes ≤ max_shapes

-- What a sheet that is read has.
--   SheetNumber, sheet-numbers   a sheet is refused with the template's numbers and the script's
--   SheetAccepted                a sheet whose template and script are read
--   mapped-accepted              what was made from what is read
--   sheet-asked, sheet-made      the sheet of a template and a script that are read
--   sheet-read                   a sheet that is read is of such
-- Assumes nothing.
use Prim.Native.Nat.{ℕ}
use mathlib.Core.Path.{◌≡◌, refl, sym, subst}
use mathlib.Core.Logic.{◌⊎◌, inl, inr}
use mathlib.Core.List.{List}
use Rattle.words.specs.Reading.{Reading, accepted, turned_down, mapped}
use Rattle.words.proofs.Readings.{accepted-same, accepted-turned, then-accepted, Numbered, then-numbered}
use Rattle.words.proofs.Readings.{mapped-numbered, numbered-map}
use Rattle.template.specs.Template.{Template, read_template}
use Rattle.template.proofs.Numbers.{TemplateNumber, template-numbers}
use Rattle.template.proofs.Accepted as template
use Rattle.script.specs.Script.{ScriptCounts, read_script}
use Rattle.script.proofs.Reading as script
use Rattle.sheet.specs.Sheet.{Sheet, sheet_of, read_sheet}
use Rattle.sheet.specs.Opened.{template_as}

-- The numbers that a template or a script is refused with.
abbrev pub SheetNumber : ℕ → Type 0
SheetNumber number = TemplateNumber number ⊎ script.ScriptNumber number

pub sheet-numbers : (words list : List ℕ) → Numbered SheetNumber (read_sheet words list)
unfolding read_sheet
sheet-numbers words list =
    then-numbered SheetNumber (read_template words)
    (λ t. mapped (λ c. sheet_of words t c list) (read_script t.kinds list))
    (numbered-map TemplateNumber SheetNumber (read_template words) (λ n h. inl h) (template-numbers words))
    (λ t. mapped-numbered SheetNumber (λ c. sheet_of words t c list) (read_script t.kinds list)
    (numbered-map script.ScriptNumber SheetNumber (read_script t.kinds list) (λ n h. inr h)
    (script.script-numbers t.kinds list)))

-- The sheet's shapes are those of a template with so many kinds that is read, its links those of a script that is.
pub record SheetAccepted (words : List ℕ) (kinds : ℕ) (s : Sheet) : Type 0 where
  pub shapes : template.TemplateAccepted words (template_as kinds s.shapes s.parts)
  pub links : script.ScriptAccepted kinds s.script s.cards s.links

module _ (words list : List ℕ) (t : Template) (c : ScriptCounts)
    (first : read_template words ≡ accepted t) (second : read_script t.kinds list ≡ accepted c) where
  pub sheet-asked : read_sheet words list ≡ accepted (sheet_of words t c list)
  unfolding read_sheet
  sheet-asked = rw (first, second)

  pub sheet-made : SheetAccepted words t.kinds (sheet_of words t c list)
  sheet-made = record {
    shapes = template.template-accepted words t first;
    links = script.script-accepted t.kinds list c second;
  }

pub mapped-accepted : {A B : Type 0} (f : A → B) (r : Reading A) (b : B) → mapped f r ≡ accepted b
    → (a : A) × (r ≡ accepted a) × (f a ≡ b)
mapped-accepted f (accepted a) b e = (a, refl, accepted-same e)
mapped-accepted f (turned_down number place) b e = accepted-turned (sym e)

pub sheet-read : (words list : List ℕ) (s : Sheet) → read_sheet words list ≡ accepted s
    → (kinds : ℕ) × SheetAccepted words kinds s × (s.script ≡ list)
unfolding read_sheet
sheet-read words list s e =
    let (t, first, rest) = then-accepted (read_template words)
    (λ t. mapped (λ c. sheet_of words t c list) (read_script t.kinds list)) s e in
    let (c, second, same) = mapped-accepted (λ c. sheet_of words t c list) (read_script t.kinds list) s rest in
    subst (λ (x : Sheet). (k : ℕ) × SheetAccepted words k x × (x.script ≡ list)) same
    (t.kinds, sheet-made words list t c first second, refl)

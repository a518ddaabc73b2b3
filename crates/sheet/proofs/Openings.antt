-- What reading a template and a script says of the sheet that they make.
-- sheet-opened                     both are read
-- sheet-template, sheet-script     the sheet is turned down for its template, or for its script
-- Assumes nothing.
use Prim.Native.Nat.{ℕ}
use mathlib.Core.Path.{◌≡◌, refl, sym, ap, ap₂, ◌∙◌}
use mathlib.Core.List.{List, [], ◌∷◌}
use Rattle.words.specs.Said.{values, refusal}
use Rattle.words.specs.Reading.{accepted, turned_down, said_of}
use Rattle.words.proofs.Readings.{said-turned}
use Rattle.template.specs.Template.{template_says}
use Rattle.template.proofs.Answers.{template-read, template-turned}
use Rattle.script.specs.Script.{read_script, script_values}
use Rattle.script.proofs.Answers.{script-read}
use Rattle.sheet.specs.Sheet.{read_sheet}
use Rattle.sheet.specs.declared.Extent.{Extent}
use Rattle.sheet.specs.Opened.{template_as, Opened}

module _ (template script : List ℕ) where
  -- Both are read.
  pub sheet-opened :
      (e : Extent) → values (e.kinds ∷ e.shapes ∷ []) ≡ template_says template →
      values (e.cards ∷ e.links ∷ []) ≡ said_of script_values (read_script e.kinds script) → Opened template script e
  sheet-opened e p q =
      let (t, read, kinds, shapes) = template-read template e.kinds e.shapes p in
      record {
        parts = t.parts;
        template-read =
            read ∙ ap₂ (λ (k s : ℕ). accepted (template_as k s t.parts)) (sym kinds) (sym shapes);
        script-read = script-read (read_script e.kinds script) e.cards e.links q;
      }

  -- The template is turned down.
  pub sheet-template :
      (number place : ℕ) → refusal number (place ∷ []) ≡ template_says template →
      read_sheet template script ≡ turned_down number place
  unfolding read_sheet
  sheet-template number place e = rw (template-turned template number place e) refl

  -- The template is read and the script is turned down.
  pub sheet-script :
      (kinds shapes number place : ℕ) → values (kinds ∷ shapes ∷ []) ≡ template_says template →
      refusal number (place ∷ []) ≡ said_of script_values (read_script kinds script) →
      read_sheet template script ≡ turned_down number place
  unfolding read_sheet
  sheet-script kinds shapes number place p q =
      let (t, read, same-kinds, same-shapes) = template-read template kinds shapes p in
      let turned = ap (λ (k : ℕ). read_script k script) (sym same-kinds)
      ∙ said-turned script_values (read_script kinds script) number place q in
      rw (read, turned) refl

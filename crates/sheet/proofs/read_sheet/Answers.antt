-- `sheet::read_sheet` meets its contract: a law of proofs/Openings and proofs/Ways for each answer. Assumes nothing.
use lib.ListN.{length}
use mathlib.Core.List.{[], ◌∷◌}
use mathlib.Core.Path.{◌≡◌, sym, ap, ◌∙◌}
use Rattle.std.proofs.lemmas.Result.{err_from_is_err_and}
use Rattle.words.specs.Said.{values}
use Rattle.words.specs.Sizes.{table_size}
use Rattle.template.specs.Answer.{template_said}
use Rattle.template.specs.Template.{template_says}
use Rattle.script.specs.Answer.{script_said}
use Rattle.sheet.proofs.Openings.{sheet-opened, sheet-template, sheet-script}
use Rattle.sheet.proofs.Ways.{ways-asked, all-outgoing}
use native.Mathlib.Omega.{arith}
use Rattle.sheet.proofs.read_sheet.Goals as goal
use Rattle.sheet.proofs.read_sheet.Goals.{After-read_with_kinds}

-- What was said of the template: its counts.
said : (w : After-read_with_kinds) →
    values (w.in_ok-sizes.sizes.kinds ∷ w.in_ok-sizes.sizes.shapes ∷ []) ≡ template_says w.args.template.now
said w = sym (ap template_said w.in_ok-sizes.was) ∙ w.read_names.ensures.answer

-- The table is as long as before.
full : (w : After-read_with_kinds) → length w.read_names.new.names ≡ table_size
full w = omega arith

pub names_incoming-incoming-requires : goal.names_incoming-incoming-requires
names_incoming-incoming-requires c =
    let read = (goal.at.names_incoming-incoming-requires c).After-read_with_kinds in
    ways-asked _ _ _ _ (said read) _ _ (full read) c.from.ensures c.from-2.ensures

pub returns-in_err-sizes : goal.returns-in_err-sizes
returns-in_err-sizes c =
    let p = err_from_is_err_and c.from_residual.result c.from_residual.ensures.1 in
    rw (p.1, p.2) (sheet-template _ _ _ _ (sym (ap template_said c.in_err-sizes.was) ∙ c.read_names.ensures.answer))

pub returns-in_err-counts : goal.returns-in_err-counts
returns-in_err-counts c =
    let p = err_from_is_err_and c.from_residual-in_err-counts.result c.from_residual-in_err-counts.ensures.1 in
    rw (p.1, p.2)
    (sheet-script _ _ _ _ _ _ (said (goal.at.returns-in_err-counts c).After-read_with_kinds)
    (sym (ap script_said c.in_err-counts.was) ∙ c.read_with_kinds.ensures))

pub returns : goal.returns
returns c =
    let read = (goal.at.returns c).After-read_with_kinds in
    let counts = sym (ap script_said c.in_ok-counts.was) in
    let table = c.read_names.ensures.table in
    record {
      opened = sheet-opened _ _ _ (said read) (counts ∙ c.read_with_kinds.ensures);
      table = table;
      room = full read;
      ways = λ e.
          all-outgoing _ c.read_names.new.names _ _ (said read) _ _ table c.from.ensures c.from-2.ensures
          (c.names_incoming-incoming.ensures e);
    }

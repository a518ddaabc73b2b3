-- `script::read_script` reads a script with a template: the template's refusals, or the script's reading.
-- Assumes nothing.
use mathlib.Core.Path.{sym, ap, ◌∙◌}
use Rattle.std.proofs.lemmas.Result.{err_from_is_err_and}
use Rattle.template.specs.Answer.{template_said}
use Rattle.script.proofs.WithTemplate.{script-counts, script-refused}
use Rattle.script.proofs.read_script.Goals as goal

pub returns-in_err-sizes : goal.returns-in_err-sizes
returns-in_err-sizes c =
    let p = err_from_is_err_and c.from_residual.result c.from_residual.ensures.1 in
    rw (p.1, p.2) (script-refused _ _ _ _ (sym (ap template_said c.in_err-sizes.was) ∙ c.read_template.ensures))

pub returns : goal.returns
returns c =
    c.read_with_kinds.ensures
    ∙ script-counts _ _ _ _ (sym (ap template_said c.in_ok-sizes.was) ∙ c.read_template.ensures)

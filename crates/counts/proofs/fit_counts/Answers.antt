-- `fit_counts` meets its contract. Assumes nothing.
use mathlib.Core.Path.{sym, ◌∙◌, ap}
use Rattle.std.proofs.lemmas.Result.{err_from_is_err_and}
use Rattle.template.specs.Answer.{template_said}
use Rattle.counts.proofs.Fitting.{fit-template}
use borrow.Author.Rules.{rules}
use Rattle.counts.proofs.fit_counts.Goals as goal

pub fit_accepted-requires : goal.fit_accepted-requires
fit_accepted-requires c =
    record {
      said = sym (ap template_said c.in_ok-sizes.was) ∙ c.read_names.ensures.answer;
      size = search rules;
      table = c.read_names.ensures.table;
    }

pub returns-in_err-sizes : goal.returns-in_err-sizes
returns-in_err-sizes c =
    let p = err_from_is_err_and c.from_residual.result c.from_residual.ensures.1 in
    rw (p.1, p.2)
    (fit-template _ _ _ _ _ (sym (ap template_said c.in_err-sizes.was) ∙ c.read_names.ensures.answer))

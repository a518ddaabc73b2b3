-- `template::part_at` meets its contract: a law of proofs/Opening for each answer. Assumes nothing.
use mathlib.Core.Path.{sym, ◌∙◌}
use Rattle.template.proofs.Opening.{part-open, part-closed}
use Rattle.template.proofs.part_at.Goals as goal

pub returns-then-open_at : goal.returns-then-open_at
returns-then-open_at c = sym (part-open _ _ (sym c.open_at.ensures ∙ c.if-open_at.true))

pub returns-else-open_at : goal.returns-else-open_at
returns-else-open_at c = sym (part-closed _ _ (sym c.open_at.ensures ∙ c.if-open_at.false))

-- `template::open_at` meets its contract: the word after the count is 18. Assumes nothing.
use Rattle.template.specs.Template.{open_at}
use borrow.Author.Rules.{rules}
use Rattle.template.proofs.open_at.Goals as goal

pub returns : goal.returns
unfolding open_at
returns c = search rules

-- `link` meets its contract. Assumes nothing.
use Rattle.evaluator.proofs.Evaluations.{link-evaluates}
use borrow.Author.Rules.{rules}
use Rattle.evaluator.proofs.link.Goals as goal

pub returns : goal.returns
returns c =
    let viewed = c.link_span-span.ensures.view in
    let small = c.link_span-span.ensures.small in
    rw (← c.word.ensures, ← c.word-2.ensures)
    (link-evaluates _ _ _ _ _ _ _ _ c.count_next-count.ensures.exact (search rules) viewed small)

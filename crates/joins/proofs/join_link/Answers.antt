-- `join_link` meets its contract. Assumes nothing.
use Rattle.bags.proofs.Spans.{small-more}
use borrow.Author.Rules.{rules}
use Rattle.joins.proofs.join_link.Goals as goal

pub join_span-requires : goal.join_span-requires
join_span-requires c =
    let link = c.link_span.ensures.view in
    let small = c.link_span.ensures.small in
    record {
      first = c.requires.small;
      second = small-more _ 1000000000 _ (search rules) small;
    }

-- `links::leaving_links` lends the part of the script between two starts. Assumes nothing.
use native.Mathlib.Omega.{arith}
use Rattle.script.specs.Steps.{LinksIn}
use Rattle.links.proofs.Leaving.{leaving-within, leaving-words}
use borrow.Author.Rules.{rules}
use Rattle.links.proofs.index.leaving_links.Goals as goal
use Rattle.links.proofs.index.leaving_links.Goals.{After-from-2}

-- The links lie inside the script.
lies : (a : After-from-2) → LinksIn a.args.script.now a.from.result a.from-2.result
lies a =
    leaving-within a.requires.leaving _ _ _ (omega arith) a.from.ensures a.from-2.ensures

pub slice_bounds-result-count : goal.slice_bounds-result-count
slice_bounds-result-count c = let w = lies c in search rules

pub slice_bounds-result-start : goal.slice_bounds-result-start
slice_bounds-result-start c = let w = lies c in search rules

pub slice_bounds-result-end : goal.slice_bounds-result-end
slice_bounds-result-end c = let w = lies c in search rules

pub returns : goal.returns
returns c =
    λ links s. leaving-words s _ _ _ (omega arith) c.from.ensures c.from-2.ensures

-- `verdict::judge_of` gives the verdict on a grid of a sheet's size: a byte over 1, or what testing its pairs finds.
-- The links to each card are chained where some shape names an incoming kind. Assumes nothing.
use mathlib.Core.Path.{◌∙◌, ap}
use Rattle.sheet.specs.Sheet.{size}
use Rattle.lent.proofs.KnownSheet.{same-sheet}
use Rattle.pairs.proofs.Links.{arrivals-asked}
use Rattle.verdict.proofs.Verdicts.{over-found}
use Rattle.verdict.proofs.judge_of.Goals as goal
use Rattle.verdict.proofs.judge_of.Goals.{In_default}

pub returns-in-Some : goal.returns-in-Some
returns-in-Some c s q =
    let lent = c.requires in
    let full = lent.size ∙ ap size (same-sheet lent.booked.known s q) in
    over-found c.args.grid.now c.in-Some.ensures full

pub chain_arrivals-requires : goal.chain_arrivals-requires
chain_arrivals-requires c = arrivals-asked c.requires.booked.known

-- `judging::Judged::pair_met` tests whether a pair is met under the grid: a law of proofs/Judging for each way out.
-- Assumes nothing.
use Rattle.board.proofs.Grids.{on-yes, on-no}
use Rattle.judging.proofs.Judging.{unfit-unmet, leaving-asked, arriving-asked, unmet-from, met-from, met-both}
use Rattle.judging.proofs.Judged.pair_met.Goals as goal

pub returns-then-self-place-ne1 : goal.returns-then-self-place-ne1
returns-then-self-place-ne1 c =
    unfit-unmet c.requires (on-no c.args.self.now.fitting.now c.args.place c.if-self-place-ne1.true)

pub leaving_had-requires : goal.leaving_had-requires
leaving_had-requires c = leaving-asked c.requires c.from-lo.ensures c.from-hi.ensures

pub returns-then-not-leaving_had : goal.returns-then-not-leaving_had
returns-then-not-leaving_had c =
    unmet-from c.requires c.from-lo.ensures c.from-hi.ensures
    (on-yes c.args.self.now.fitting.now c.args.place c.if-self-place-ne1.false)
    c.leaving_had.ensures c.if-not-leaving_had.true

pub arriving_had-requires : goal.arriving_had-requires
arriving_had-requires c = arriving-asked c.requires c.if-self.true

pub returns-then-self : goal.returns-then-self
returns-then-self c =
    met-both c.requires c.from-lo.ensures c.from-hi.ensures
    (on-yes c.args.self.now.fitting.now c.args.place c.if-self-place-ne1.false)
    c.leaving_had.ensures c.if-not-leaving_had.false c.arriving_had.ensures

pub returns : goal.returns
returns c =
    met-from c.requires c.from-lo.ensures c.from-hi.ensures
    (on-yes c.args.self.now.fitting.now c.args.place c.if-self-place-ne1.false)
    c.leaving_had.ensures c.if-not-leaving_had.false c.if-self.false

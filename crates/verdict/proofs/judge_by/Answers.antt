-- `verdict::judge_by` gives the verdict on a grid of zeros and ones: what testing its pairs finds. Assumes nothing.
use native.Mathlib.Omega.{arith}
use Rattle.lent.proofs.KnownSheet.{few-pairs}
use Rattle.verdict.proofs.judge_by.Goals as goal

pub slice_bounds-fitting-end : goal.slice_bounds-fitting-end
slice_bounds-fitting-end c =
    let lent = c.requires.lent in
    omega (arith, lent.size, few-pairs lent.booked.known)

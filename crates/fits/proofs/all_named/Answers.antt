-- `fits::all_named` meets its contract. The invariant: the kinds of the links so far have entries. Assumes nothing.
use Prim.Native.Nat.{ℕ, ◌+◌, ◌*◌}
use mathlib.Core.Path.{◌≡◌, ◌∙◌, ap, sym}
use native.Mathlib.Omega.{arith}
use borrow.Author.Count.{below_more}
use lib.ListN.{get_or}
use Rattle.links.specs.Runs.{kind_in}
use Rattle.links.proofs.Runs.{kind_at}
use Rattle.fits.proofs.CardTests.{named-not, named-all}
use Rattle.fits.proofs.all_named.Goals as goal
use Rattle.fits.proofs.all_named.Goals.{After-from, In-loop-i}

-- The kind of the loop's link.
kind_is : (l : In-loop-i) → get_or l.args.links.now (3 * l.loop-i.i + 1) 0 ≡ kind_in l.args.links.now l.loop-i.i
kind_is l = kind_at l.args.links.now l.loop-i.i _ (omega arith)

-- And its entry.
entry_is : (a : After-from) →
    get_or a.args.row.now a.from.result 0 ≡ get_or a.args.row.now (kind_in a.args.links.now a.loop-i.i) 0
entry_is a =
    ap (λ (k : ℕ). get_or a.args.row.now k 0) (a.from.ensures ∙ kind_is (goal.at.After-from a).In-loop-i)

pub bounds-row-from : goal.bounds-row-from
bounds-row-from c =
    let rise = c.requires.rise in
    let kind = kind_is (goal.at.bounds-row-from c).In-loop-i in
    omega (arith, c.requires.leaving c.loop-i.i (omega (arith, rise.size)), kind, c.from.ensures, c.requires.full)

pub returns-then-row-from-eq0 : goal.returns-then-row-from-eq0
returns-then-row-from-eq0 c p kinds names under =
    let rise = c.requires.rise in
    named-not _ _ rise _ c.loop-i.invariant p kinds names under (omega (arith, rise.size))
    (sym (entry_is (goal.at.returns-then-row-from-eq0 c).After-from) ∙ c.if-row-from-eq0.true)

pub loop-i-preserved : goal.loop-i-preserved
loop-i-preserved c =
    below_more _ _ c.loop-i.invariant
    (λ none. c.if-row-from-eq0.false (entry_is (goal.at.loop-i-preserved c).After-from ∙ none))

pub returns : goal.returns
returns c p kinds names under =
    let rise = c.requires.rise in
    named-all _ _ rise _ c.loop-i.invariant p kinds names under (omega (arith, rise.size))

-- `fits::fit_shape` meets its contract. The invariant: the cards before the loop's have their bytes under the shape,
-- a twin's among them. Assumes nothing.
use Prim.Native.Nat.{ℕ, ◌+◌, ◌*◌, ◌≤◌, ◌<◌}
use mathlib.Core.Path.{sym, ap, subst, ◌∙◌}
use lib.ListN.{length, get_or}
use native.Mathlib.Omega.{arith}
use Rattle.twins.specs.Twins.{TwinOf}
use Rattle.words.specs.Limits.{max_labels}
use Rattle.fits.specs.Fitting.{Named}
use Rattle.fits.proofs.Rows.{row_at, row_inside, row_named}
use Rattle.fits.proofs.CardCounts.{pair-byte}
use Rattle.fits.proofs.Twins.{twin-byte}
use Rattle.fits.proofs.Cells.{cards-next}
use borrow.Author.Rules.{rules}
use Rattle.fits.proofs.fit_shape.Goals as goal
use Rattle.fits.proofs.fit_shape.Goals.{Start, After-from-twin, In-loop-n, then-twin-n+then-not-back, else-twin-n}

-- The shape's row lies in the table of names, and has the names of its part.
row : (s : Start) → s.args.t * max_labels + max_labels ≤ length s.args.sheet.now.names.now
row s = row_inside _ _ _ s.args.sheet.now.extent s.requires.known _ s.requires.below

named : (s : Start) → Named s.args.sheet.now.template.now (row_at s.args.sheet.now.names.now s.args.t)
    s.args.sheet.now.extent s.args.t s.args.at
named s = row_named _ _ _ s.args.sheet.now.extent s.requires.known _ s.requires.below _ s.requires.place

-- The card that the loop comes to is one of the script's.
below : (c : In-loop-n) → c.loop-n.n < c.args.sheet.now.extent.cards
below c = omega (arith, c.from-cards.ensures)

-- The card's twin.
twin : (a : After-from-twin) →
    TwinOf a.args.sheet.now.script.now a.args.sheet.now.extent.links a.loop-n.n a.from-twin.result
twin a =
    subst (TwinOf a.args.sheet.now.script.now a.args.sheet.now.extent.links a.loop-n.n) (sym a.from-twin.ensures)
    (a.requires.alike.each _ (below (goal.at.After-from-twin a).In-loop-n))

pub overflow_mul-base : goal.overflow_mul-base
overflow_mul-base c = let inside = row (goal.at.overflow_mul-base c).Start in search rules

pub overflow_add-end : goal.overflow_add-end
overflow_add-end c = let inside = row (goal.at.overflow_add-end c).Start in search rules

pub slice_bounds-row-end : goal.slice_bounds-row-end
slice_bounds-row-end c = let inside = row (goal.at.slice_bounds-row-end c).Start in search rules

pub looks_back-back-requires : goal.looks_back-back-requires
looks_back-back-requires c = (named (goal.at.looks_back-back-requires c).Start).asked

pub pair_fits-fit-requires : goal.pair_fits-fit-requires
pair_fits-fit-requires c = record {
  opened = c.requires.known.opened;
  standing = c.requires.standing;
  t = c.args.t;
  at = c.args.at;
  named = named (goal.at.pair_fits-fit-requires c).Start;
  planned = c.plan_shape-plan.ensures;
  seen = c.looks_back-back.ensures;
  below = below (goal.at.pair_fits-fit-requires c).In-loop-n;
}

pub loop-n-preserved : goal.loop-n-preserved
loop-n-preserved c =
    let place = ap (λ (x : ℕ). c.loop-n.n * x + c.args.t) c.from-shapes.ensures in
    let here = below (goal.at.loop-n-preserved c).In-loop-n in
    elim c.if-twin-n.branch [
      | then-twin-n+then-not-back w ↦ rw w.grid-is (cards-next _ _ c.args.sheet.now.extent _ _ _ _ _ _
          c.loop-n.invariant here
          c.requires.below place
          (λ parts r.
          ap (λ (x : ℕ). get_or c.loop-n.grid (c.from-twin.result * x + c.args.t) 0) c.from-shapes.ensures
          ∙ c.loop-n.invariant.each parts r _ w.if-twin-n.true
          ∙ twin-byte _ _ c.args.sheet.now.extent c.requires.known.opened _ _ (twin (goal.at.loop-n-preserved
          c).After-from-twin) _ _ _
          (named (goal.at.loop-n-preserved c).Start) _ c.looks_back-back.ensures w.if-not-back.true parts r))
      | else-twin-n w ↦ rw w.grid-is (cards-next _ _ c.args.sheet.now.extent _ _ _ _ _ _ c.loop-n.invariant here
          c.requires.below place
          (λ parts r. pair-byte _ _ c.args.sheet.now.extent _ _ _ _ _ c.plan_shape-plan.ensures
          c.requires.place c.requires.below _ w.pair_fits-fit.ensures _ w.from.ensures parts r))
    ]

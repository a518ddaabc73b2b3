-- `fits::fit_grid` meets its contract. The invariant: the loop is at the shape's place, and the shapes before it have
-- their columns. Assumes nothing.
use Prim.Native.Nat.{◌<◌}
use mathlib.Core.Path.{refl}
use native.Mathlib.Omega.{arith}
use Rattle.sheet.specs.Opened.{template_as}
use Rattle.fits.proofs.Planning.{ShapeIn, shape-in}
use Rattle.fits.proofs.Twins.{twins-asked, twins-found}
use Rattle.fits.proofs.Cells.{shapes-start, shapes-next}
use borrow.Author.Rules.{rules}
use Rattle.fits.proofs.fit_grid.Goals as goal
use Rattle.fits.proofs.fit_grid.Goals.{In-loop-t}

-- The loop's shape is one of the template's.
below : (c : In-loop-t) → c.loop-t.t < c.args.sheet.now.extent.shapes
below c = omega (arith, c.from-shapes.ensures)

-- Where its words lie, and its row.
shape_of : (c : In-loop-t) →
    ShapeIn c.args.sheet.now.template.now c.loop-t.at
shape_of c =
    let o = c.requires.known.opened in
    shape-in _ (template_as _ _ o.parts) o.template-read _ (below c) _ c.loop-t.invariant.place

pub find_twins-requires : goal.find_twins-requires
find_twins-requires c =
    let asked = c.requires in
    twins-asked _ _ _ c.args.sheet.now.extent asked.known.opened asked.standing.leaving _ c.from.ensures _ refl

pub loop-t-init : goal.loop-t-init
loop-t-init c = shapes-start _ _ c.args.sheet.now.extent _ c.requires.size

pub fit_shape-requires : goal.fit_shape-requires
fit_shape-requires c =
    let asked = c.requires in
    record {
      known = asked.known;
      standing = asked.standing;
      alike = twins-found _ _ _ c.args.sheet.now.extent asked.known.opened asked.standing.leaving _
          c.from.ensures _ c.find_twins.ensures.each;
      below = below (goal.at.fit_shape-requires c).In-loop-t;
      place = c.loop-t.invariant.place;
      size = c.loop-t.invariant.size;
    }

pub offset_bounds-sheet-at : goal.offset_bounds-sheet-at
offset_bounds-sheet-at c = let i = shape_of (goal.at.offset_bounds-sheet-at c).In-loop-t in search rules

pub bounds-sheet-at : goal.bounds-sheet-at
bounds-sheet-at c = let i = shape_of (goal.at.bounds-sheet-at c).In-loop-t in search rules

pub overflow_add-at-in-loop-t : goal.overflow_add-at-in-loop-t
overflow_add-at-in-loop-t c = let i = shape_of (goal.at.overflow_add-at-in-loop-t c).In-loop-t in search rules

pub loop-t-preserved : goal.loop-t-preserved
loop-t-preserved c =
    shapes-next _ _ c.args.sheet.now.extent _ _ _ _ c.loop-t.invariant (below (goal.at.loop-t-preserved c).In-loop-t)
    c.from-in-loop-t.ensures _
    c.fit_shape.ensures

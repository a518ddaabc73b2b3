-- `template::all_shapes` meets its contract. The invariant is `Filling` of proofs/Table.
-- Assumes nothing.
use Prim.Native.Nat.{◌<◌}
use mathlib.Core.Path.{refl, ap, ◌∙◌}
use native.Mathlib.Omega.{arith}
use borrow.Rule.Slice.PartMut.{mid_len}
use Rattle.template.specs.Template.{read_shape}
use Rattle.template.specs.Machine.{ShapeAnswer, moved_to}
use Rattle.std.proofs.lemmas.Result.{err_from_is_err_and}
use Rattle.template.proofs.Table.{filling-start, filling-next, filling-refused}
use Rattle.template.proofs.Table.{filling-more, filling-end}
use Rattle.template.proofs.all_shapes.Goals as goal
use Rattle.template.proofs.all_shapes.Goals.{In-loop-t, After-shape}

-- a turn's shape is one of the template's
below : (c : In-loop-t) → c.loop-t.t < c.args.sizes.shapes
below c = omega (arith, c.from-t-end.ensures, c.loop-t-test.true)

-- what the reader found of the shape t, of the words that were lent
read : (c : After-shape) → ShapeAnswer (read_shape c.args.sizes c.args.words.now c.loop-t.reader.at)
    (moved_to c.shape.new.self.at c.shape.result) c.shape.new.row
read c = rw c.loop-t.invariant.0 at c.shape.ensures.reads

pub loop-t-init : goal.loop-t-init
loop-t-init c = (refl, filling-start c.args.sizes c.args.words.now c.args.names.now c.requires.room)

pub shape-requires : goal.shape-requires
shape-requires c =
    record {
      kinds-high = c.requires.kinds-high;
      shapes-high = c.requires.shapes-high;
      room = mid_len _ _ c.loop-t.names (omega (
        arith,
        below (goal.at.shape-requires c).In-loop-t,
        c.requires.shapes-high,
        c.loop-t.invariant.1.size,
      ))
          ∙ omega arith;
    }

pub loop-t-preserved : goal.loop-t-preserved
loop-t-preserved c = (
  ap (λ w. w.now) c.shape.ensures.stays ∙ c.loop-t.invariant.0,
  filling-next c.loop-t.invariant.1 (below (goal.at.loop-t-preserved c).In-loop-t) c.requires.shapes-high
      c.shape.new.row _ c.shape.auto.row (ap (moved_to c.shape.new.self.at) c.in_ok-shape.was)
      (read (goal.at.loop-t-preserved c).After-shape),
)

pub returns-in_err-shape : goal.returns-in_err-shape
returns-in_err-shape c =
    let p = err_from_is_err_and c.from_residual.result c.from_residual.ensures.1 in
    rw (p.1, p.2)
    (filling-refused c.loop-t.invariant.1 _ _ _ (below (goal.at.returns-in_err-shape c).In-loop-t)
    (ap (moved_to c.shape.new.self.at) c.in_err-shape.was) (read (goal.at.returns-in_err-shape c).After-shape))

pub returns-then-reader-words : goal.returns-then-reader-words
returns-then-reader-words c =
    filling-more c.loop-t.invariant.1 (omega arith)
    c.if-reader-words.true

pub returns : goal.returns
returns c =
    filling-end c.loop-t.invariant.1 (omega arith)
    c.if-reader-words.false

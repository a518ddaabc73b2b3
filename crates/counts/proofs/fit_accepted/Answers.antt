-- `fit_accepted` meets its contract. Assumes nothing.
use native.Mathlib.Omega.{arith}
use Prim.Native.Nat.{◌+◌, ◌-◌, ◌*◌}
use mathlib.Core.Path.{◌≡◌, refl}
use Rattle.words.specs.Limits.{max_labels}
use Rattle.template.proofs.Accepted.{template-accepted}
use Rattle.template.proofs.Answers.{template-read}
use Rattle.counts.proofs.Fitting.{fits-asks, fit-shape, fit_length, fit-over, fit-tested}
use Rattle.counts.proofs.fit_accepted.Goals as goal

pub returns-then-sizes-n : goal.returns-then-sizes-n
returns-then-sizes-n c =
    let (t, e, kinds, shapes) = template-read _ _ _ c.requires.said in
    fit-shape _ _ _ t e (omega arith)

pub returns-then-counts-each_way : goal.returns-then-counts-each_way
returns-then-counts-each_way c =
    let (t, e, kinds, shapes) = template-read _ _ _ c.requires.said in
    fit_length _ _ _ t e (omega arith) (omega arith)

pub returns-in-Some : goal.returns-in-Some
returns-in-Some c =
    let (t, e, kinds, shapes) = template-read _ _ _ c.requires.said in
    fit-over _ _ _ t e (omega arith) (omega arith) _ (c.in-Some.ensures).1 (c.in-Some.ensures).0

pub spread-requires : goal.spread-requires
spread-requires c =
    let (t, e, kinds, shapes) = template-read _ _ _ c.requires.said in
    let high = (template-accepted _ t e).kinds-high in
    record { few = omega arith; each_way = omega arith; zeros = refl }

pub slice_bounds-list_fits-end : goal.slice_bounds-list_fits-end
slice_bounds-list_fits-end c =
    let (t, e, kinds, shapes) = template-read _ _ _ c.requires.said in
    let high = (template-accepted _ t e).shapes-high in
    omega arith

pub list_fits-requires : goal.list_fits-requires
list_fits-requires c =
    let (t, e, kinds, shapes) = template-read _ _ _ c.requires.said in
    let row = c.from-base.result * max_labels in
    let base : row ≡ c.args.shape.0 * max_labels = omega arith in
    let size : row + max_labels - row ≡ max_labels = omega arith in
    let few = (template-accepted _ t e).kinds-high in
    fits-asks _ t e _ (omega arith) c.args.names.now _ _ _ _ _ (c.requires.table t e) c.requires.size
    c.spread.ensures.full (omega arith) c.shape_place-at.ensures base size

pub returns : goal.returns
returns c =
    let (t, e, kinds, shapes) = template-read _ _ _ c.requires.said in
    fit-tested _ _ _ t e (omega arith) (omega arith) _ refl (omega (arith, c.in_default.ensures)) _ _ _
    (omega arith) c.spread.ensures c.shape_place-at.ensures _ c.list_fits.ensures

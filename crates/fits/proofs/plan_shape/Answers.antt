-- `fits::plan_shape` meets its contract: below the wrappers stands the core, and if it is flat its links have their
-- places. Assumes nothing.
use Prim.Native.Nat.{ℕ, ◌+◌, ◌≤◌}
use mathlib.Core.Path.{◌≡◌, sym, subst}
use native.Mathlib.Omega.{arith}
use lib.ListN.{length, get_or}
use Rattle.words.specs.Limits.{max_depth}
use Rattle.template.specs.Template.{part_at}
use Rattle.template.proofs.Opening.{part-near}
use Rattle.flat.specs.Places.{SurveyedAs}
use Rattle.fits.proofs.Planning.{ShapeIn, shape-in, Core, shape-core, core-below, survey-asked, flat-plan}
use borrow.Author.Rules.{rules}
use Rattle.fits.proofs.plan_shape.Goals as goal
use Rattle.fits.proofs.plan_shape.Goals.{After-part_at-start, Start}

-- Where the shape's words lie.
shape_of : (s : Start) → ShapeIn s.args.template.now s.args.at
shape_of s = shape-in _ s.requires.whole s.requires.read s.requires.shape s.requires.below _ s.requires.place

abbrev end : After-part_at-start → ℕ
end a = a.args.at + 1 + a.from.result

end-in : (a : After-part_at-start) → end a ≤ length a.args.template.now
end-in a = omega (arith, (shape_of (goal.at.After-part_at-start a).Start).stop, a.from.ensures)

-- The part stands there.
part-core : (a : After-part_at-start) → Core a.args.template.now max_depth a.part_at-start.result (end a)
part-core a =
    let words = a.args.template.now in
    let same : a.args.at + 1 + get_or words a.args.at 0 ≡ end a =
    omega (arith, a.from.ensures) in
    subst (λ (n : ℕ). Core words max_depth n (end a)) (sym a.part_at-start.ensures)
    (subst (Core words max_depth (part_at words a.args.at)) same
    (shape-core _ a.requires.whole a.requires.read a.requires.shape a.requires.below _ a.requires.place))

pub overflow_add-end : goal.overflow_add-end
overflow_add-end c = let i = shape_of (goal.at.overflow_add-end c).Start in search rules

pub offset_bounds-template-at : goal.offset_bounds-template-at
offset_bounds-template-at c = let i = shape_of (goal.at.offset_bounds-template-at c).Start in search rules

pub bounds-template-at : goal.bounds-template-at
bounds-template-at c = let i = shape_of (goal.at.bounds-template-at c).Start in search rules

pub overflow_add-end-2 : goal.overflow_add-end-2
overflow_add-end-2 c = let i = shape_of (goal.at.overflow_add-end-2 c).Start in search rules

pub open_at-opened-requires : goal.open_at-opened-requires
open_at-opened-requires c = (shape_of (goal.at.open_at-opened-requires c).Start).start

pub part_at-start-requires : goal.part_at-start-requires
part_at-start-requires c = (shape_of (goal.at.part_at-start-requires c).Start).start

pub core_place-core-requires : goal.core_place-core-requires
core_place-core-requires c = (omega (arith, (part-core c).standing.ends), end-in c)

pub survey_part-needed-requires : goal.survey_part-needed-requires
survey_part-needed-requires c =
    let found = c.core_place-core.ensures in
    let (left, level, core) = core-below _ _ (end-in (goal.at.survey_part-needed-requires c).After-part_at-start) _
    _ (part-core (goal.at.survey_part-needed-requires c).After-part_at-start) found in
    let near = part-near c.args.template.now c.args.at in
    survey-asked _ _ (end-in (goal.at.survey_part-needed-requires c).After-part_at-start) left _ _ core (omega
    (arith, near, found.wrap.order, c.part_at-start.ensures))
    (shape_of (goal.at.survey_part-needed-requires c).Start).short c.requires.blank

pub returns : goal.returns
returns c =
    let surveyed = c.survey_part-needed.ensures in
    record {
      is_open = c.open_at-opened.ensures;
      start = c.part_at-start.ensures;
      flat = λ needed is. flat-plan _ _ (end-in (goal.at.returns c).After-part_at-start) _ _ needed (part-core
          (goal.at.returns c).After-part_at-start) c.core_place-core.ensures
          (λ p standing. subst (SurveyedAs c.args.template.now p _) is (surveyed p standing));
    }

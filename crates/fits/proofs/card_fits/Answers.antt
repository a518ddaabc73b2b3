-- `fits::card_fits` meets its contract: a law of proofs/CardTests for each answer. Assumes nothing.
use mathlib.Core.Path.{sym, ◌∙◌}
use native.Mathlib.Omega.{arith}
use Rattle.words.specs.Limits.{max_depth}
use Rattle.links.specs.Runs.{amount}
use Rattle.trees.specs.Trees.{tree_at}
use Rattle.fits.proofs.CardTests.{flat-named, flat-met, other-open, other-named, other-not}
use Rattle.fits.proofs.card_fits.Goals as goal
use Rattle.fits.proofs.card_fits.Goals.{then-plan, else-plan}

pub meet_card-requires : goal.meet_card-requires
meet_card-requires c =
    let names = c.requires.names in
    record {
      placed = (c.requires.flat _ c.in-Some.is).surveyed.placed;
      rise = names.rise;
      leaving = names.leaving;
      few = c.requires.few;
    }

pub core_fits-requires : goal.core_fits-requires
core_fits-requires c = (c.requires.flat _ c.in-Some.is).wrap

pub returns-in-Some-meet_card : goal.returns-in-Some-meet_card
returns-in-Some-meet_card c kinds names under =
    let f = c.requires.flat _ c.in-Some.is in
    let w = amount c.args.links.now c.args.arriving.now in
    let m = c.in-Some-meet_card.ensures _ kinds f.surveyed under in
    flat-met _ _ c.args.shape.now.plan _ f kinds w _ m _ (c.core_fits.ensures w f.left m.0)

pub returns-in-None-meet_card : goal.returns-in-None-meet_card
returns-in-None-meet_card c kinds names under =
    let f = c.requires.flat _ c.in-Some.is in
    let w = amount c.args.links.now c.args.arriving.now in
    flat-named _ _ c.args.shape.now.plan _ f kinds w (c.in-None-meet_card.ensures _ kinds f.surveyed under)

pub returns-then-all_named : goal.returns-then-all_named
returns-then-all_named c kinds names under =
    let p = (tree_at max_depth c.args.template.now c.args.shape.now.plan.start).value in
    elim c.if-plan.branch [
      | then-plan w ↦ other-open _ kinds p _ _ c.requires.few under w.if-plan.true _ c.part_fits.ensures
      | else-plan w ↦ other-named c.args.shape.now.plan.opened kinds p _ _ c.requires.few under _
          (w.all_named.ensures p kinds names under) (sym w.value-is ∙ c.if-all_named.true) _ c.part_fits.ensures
    ]

pub returns-else-all_named : goal.returns-else-all_named
returns-else-all_named c kinds names under =
    let p = (tree_at max_depth c.args.template.now c.args.shape.now.plan.start).value in
    elim c.if-plan.branch [
      | then-plan w ↦ grind arith
      | else-plan w ↦ c.if-all_named.false ∙ other-not _ kinds p _ _ c.requires.few under _
          (w.all_named.ensures p kinds names under) w.if-plan.false (sym w.value-is ∙ c.if-all_named.false)
    ]

-- `template::read_names` meets its contract: a law of proofs/TemplateLaws for each answer.
-- Assumes nothing.
use Prim.Native.Nat.{◌≤◌}
use mathlib.Core.Path.{ap}
use mathlib.Core.List.{[], ◌∷◌}
use mathlib.Core.Logic.{⊎_elim}
use native.Mathlib.Omega.{arith}
use lib.ListN.{get_or}
use Rattle.std.proofs.lemmas.Result.{err_from_is_err_and}
use Rattle.words.specs.Limits.{max_kinds, max_shapes}
use Rattle.words.specs.Refused.{read_as}
use Rattle.words.specs.Said.{refusal}
use Rattle.template.proofs.TemplateLaws.{TemplateRead, template-short, template-long, template-no-kinds}
use Rattle.template.proofs.TemplateLaws.{template-kinds, template-no-shapes, template-shapes, template-counts}
use Rattle.template.proofs.TemplateLaws.{template-refused}
use Rattle.template.proofs.read_names.Goals as goal
use Rattle.template.proofs.read_names.Goals.{Joined-then-template-lt2, Joined-then-kinds-lt1}
use Rattle.template.proofs.read_names.Goals.{Joined-then-shapes-lt1}
use Rattle.template.proofs.read_names.Goals.{Else-from-gt-MAX_KINDS, Else-from-gt-MAX_SHAPES}
use Rattle.template.proofs.read_names.Goals.{then-kinds-lt1-via-then-kinds-lt1}
use Rattle.template.proofs.read_names.Goals.{then-kinds-lt1-via-else-kinds-lt1+then-from-gt-MAX_KINDS}
use Rattle.template.proofs.read_names.Goals.{then-shapes-lt1-via-then-shapes-lt1}
use Rattle.template.proofs.read_names.Goals.{then-shapes-lt1-via-else-shapes-lt1+then-from-gt-MAX_SHAPES}

few-kinds : (c : Else-from-gt-MAX_KINDS) → get_or c.args.template.now 0 0 ≤ max_kinds
few-kinds c = omega (arith, c.from.ensures, c.if-from-gt-MAX_KINDS.false)

few-shapes : (c : Else-from-gt-MAX_SHAPES) → get_or c.args.template.now 1 0 ≤ max_shapes
few-shapes c = omega (arith, c.from-else-shapes-lt1.ensures, c.if-from-gt-MAX_SHAPES.false)

pub all_shapes-requires : goal.all_shapes-requires
all_shapes-requires c =
    record {
      kinds-high = few-kinds (goal.at.all_shapes-requires c).Else-from-gt-MAX_KINDS;
      shapes-high = few-shapes (goal.at.all_shapes-requires c).Else-from-gt-MAX_SHAPES;
      room = c.requires;
    }

-- the three tests of the counts, each of two parts
lengths : (c : Joined-then-template-lt2) → TemplateRead c.args.template.now (refusal 1 (0 ∷ [])) c.args.names.now
lengths c =
    ⊎_elim (template-short c.args.template.now c.args.names.now)
    (λ h. template-long c.args.template.now c.args.names.now h.0 h.1) c.then-template-lt2.either

kinds : (c : Joined-then-kinds-lt1) → TemplateRead c.args.template.now (refusal 2 (0 ∷ [])) c.args.names.now
kinds c =
    elim c.then-kinds-lt1.branch [
      | then-kinds-lt1-via-then-kinds-lt1 w ↦
          template-no-kinds c.args.template.now c.args.names.now c.if-template-lt2.false
          c.if-template-gt-MAX_TEMPLATE.false w.if-kinds-lt1.true
      | then-kinds-lt1-via-else-kinds-lt1+then-from-gt-MAX_KINDS w ↦
          template-kinds c.args.template.now c.args.names.now c.if-template-lt2.false
          c.if-template-gt-MAX_TEMPLATE.false w.if-kinds-lt1.false
          (omega (arith, w.from.ensures, w.if-from-gt-MAX_KINDS.true))
    ]

shapes :
    (c : Joined-then-shapes-lt1) → get_or c.args.template.now 0 0 ≤ max_kinds → TemplateRead c.args.template.now
    (refusal 3 (1 ∷ [])) c.args.names.now
shapes c few =
    elim c.then-shapes-lt1.branch [
      | then-shapes-lt1-via-then-shapes-lt1 w ↦
          template-no-shapes c.args.template.now c.args.names.now c.if-template-lt2.false
          c.if-template-gt-MAX_TEMPLATE.false c.if-kinds-lt1.false few w.if-shapes-lt1.true
      | then-shapes-lt1-via-else-shapes-lt1+then-from-gt-MAX_SHAPES w ↦
          template-shapes c.args.template.now c.args.names.now c.if-template-lt2.false
          c.if-template-gt-MAX_TEMPLATE.false c.if-kinds-lt1.false few w.if-shapes-lt1.false
          (omega (arith, w.from-else-shapes-lt1.ensures, w.if-from-gt-MAX_SHAPES.true))
    ]

pub returns-then-template-lt2 : goal.returns-then-template-lt2
returns-then-template-lt2 c =
    let told = lengths c in
    record { answer = told.0; table = told.1 }

pub returns-then-kinds-lt1 : goal.returns-then-kinds-lt1
returns-then-kinds-lt1 c =
    let told = kinds c in
    record { answer = told.0; table = told.1 }

pub returns-then-shapes-lt1 : goal.returns-then-shapes-lt1
returns-then-shapes-lt1 c =
    let told = shapes c (few-kinds (goal.at.returns-then-shapes-lt1 c).Else-from-gt-MAX_KINDS) in
    record { answer = told.0; table = told.1 }

pub returns-in_err-all_shapes : goal.returns-in_err-all_shapes
returns-in_err-all_shapes c =
    let told =
    template-refused c.args.template.now c.all_shapes.new.names c.if-template-lt2.false
    c.if-template-gt-MAX_TEMPLATE.false c.if-kinds-lt1.false
    (few-kinds (goal.at.returns-in_err-all_shapes c).Else-from-gt-MAX_KINDS) c.if-shapes-lt1.false
    (few-shapes (goal.at.returns-in_err-all_shapes c).Else-from-gt-MAX_SHAPES) _ _ (ap read_as c.in_err-all_shapes.was)
    c.all_shapes.ensures in
    let p = err_from_is_err_and c.from_residual.result c.from_residual.ensures.1 in
    record { answer = rw (p.1, p.2) told.0; table = told.1 }

pub returns : goal.returns
returns c =
    let told =
    template-counts c.args.template.now c.all_shapes.new.names c.if-template-lt2.false
    c.if-template-gt-MAX_TEMPLATE.false c.if-kinds-lt1.false (few-kinds (goal.at.returns c).Else-from-gt-MAX_KINDS)
    c.if-shapes-lt1.false (few-shapes (goal.at.returns c).Else-from-gt-MAX_SHAPES) _ (ap read_as c.in_ok-all_shapes.was)
    c.all_shapes.ensures in
    record { answer = told.0; table = told.1 }

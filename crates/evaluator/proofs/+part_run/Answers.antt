-- The proof of the cycle of calls {part, run}. The measure is the words left, times more than a count of parts can be,
-- and the count of a run. The invariant of `run`: so many first parts of it are evaluated.
-- Assumes nothing.
use Prim.Native.Nat.{ℕ}
use mathlib.Core.Path.{refl}
use native.Mathlib.Omega.{arith}
use Rattle.links.specs.Runs.{amount}
use Rattle.joins.specs.Evaluation.{Begins}
use Rattle.evaluator.proofs.Steps.{part-deep, part-past, part-other, part-group, part-link}
use Rattle.evaluator.proofs.Steps.{wrapped-part}
use Prim.Native.Nat.{ℕ}
use mathlib.Core.Path.{◌≡◌, subst}
use Rattle.joins.proofs.Beginnings.{begins-none, begins-more, begins-all, begins-small}
use Rattle.evaluator.proofs.Evaluations.{part_small}
use Rattle.evaluator.proofs.+part_run.Goals as goal
use Rattle.evaluator.proofs.+part_run.Goals.{part-then-levels-eq0-via-then-levels-eq0}
use Rattle.evaluator.proofs.+part_run.Goals.{part-then-levels-eq0-via-else-levels-eq0+then-words-core}

pub part-returns-then-levels-eq0 : goal.part-returns-then-levels-eq0
part-returns-then-levels-eq0 t c =
    let none = c.nothing.ensures _ _ in
    wrapped-part _ _ _ _ _ _ _ _ c.front_of-front.ensures refl
    (elim c.then-levels-eq0.branch [
      | part-then-levels-eq0-via-then-levels-eq0 w ↦ part-deep _ _ _ _ _ w.if-levels-eq0.true none
      | part-then-levels-eq0-via-else-levels-eq0+then-words-core w ↦
          part-past _ _ _ _ _ (omega arith) w.if-words-core.true none
    ])
    c.wrapped.ensures

pub part-returns-in-16-to-17 : goal.part-returns-in-16-to-17
part-returns-in-16-to-17 t c =
    wrapped-part _ _ _ _ _ _ _ _ c.front_of-front.ensures refl
    (part-group _ _ _ _ _ (omega arith) (omega arith) _ _ c.word-parts.ensures (omega arith)
    (omega arith) (λ ps. refl) c.run-inner.ensures) c.wrapped-in-16-to-17.ensures

pub part-returns-in-256-to-383 : goal.part-returns-in-256-to-383
part-returns-in-256-to-383 t c =
    wrapped-part _ _ _ _ _ _ _ _ c.front_of-front.ensures refl
    (part-link _ _ _ _ _ (omega arith) (omega arith) _ refl (omega arith) (omega arith)
    c.link.ensures) c.wrapped-in-256-to-383.ensures

pub part-returns-in_default : goal.part-returns-in_default
part-returns-in_default t c =
    let front = c.front_of-front.ensures in
    let ends = front.ends (omega (arith, front.order, front.few)) (omega arith) in
    wrapped-part _ _ _ _ _ _ _ _ front refl
    (part-other _ _ _ _ _ (omega arith) (omega arith) ends (grind arith) (grind arith)
    (c.nothing-in_default.ensures _ _))
    c.wrapped-in_default.ensures

pub run-loop-done-init : goal.run-loop-done-init
run-loop-done-init t c = record { few = omega arith; begun = begins-none _ _ _ _ _ _ (c.none-whole.ensures _ _) }

pub run-join-whole-requires : goal.run-join-whole-requires
run-join-whole-requires t c =
    let ready = c.requires in
    record {
      first = begins-small _ _ _ _ _ _ _ c.loop-done.invariant.begun ready.short;
      second = part_small _ _ _ ready.short _ _ c.part-first.ensures;
    }

pub run-loop-done-preserved-then-some-eq0 : goal.run-loop-done-preserved-then-some-eq0
run-loop-done-preserved-then-some-eq0 t c =
    record {
      few = omega arith;
      begun = begins-more _ _ _ _ _ _ _ c.loop-done.invariant.begun _ _ c.part-first.ensures c.join-whole.ensures;
    }

pub run-loop-done-preserved : goal.run-loop-done-preserved
run-loop-done-preserved t c =
    let some = c.take_links-some.ensures in
    record { few = omega (arith, some.few); begun = some.begins _ _ c.loop-done.invariant.begun }

pub run-returns : goal.run-returns
run-returns t c =
    let a = c.args in
    let all : c.loop-done.done ≡ a.parts = omega (arith, c.loop-done.invariant.few) in
    begins-all _ _ _ _ _ _ _
    (subst (λ (n : ℕ). Begins (amount a.amounts.now.links.now a.amounts.now.listed.now) a.words.now a.left a.at a.code
    n c.loop-done.whole) all c.loop-done.invariant.begun)

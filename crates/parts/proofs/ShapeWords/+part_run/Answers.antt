-- The proof of the cycle of calls {part, run}. The measure is twice the words left, and one more for a run, which
-- starts with a part at its own place. A law of proofs/Laws answers each return of `part`. The invariant of `run` is
-- `Remaining` of proofs/Remaining, its measure the parts left.
-- Assumes nothing.
use Prim.Native.Nat.{ℕ, ◌+◌, ◌-◌, ◌<◌}
use mathlib.Core.List.{List}
use Rattle.parts.specs.declared.Sizes.{Sizes}
use mathlib.Core.Path.{◌≡◌}
use Rattle.std.proofs.lemmas.Result.{err_from_is_err_and}
use native.Mathlib.Omega.{arith}
use Rattle.parts.proofs.Laws.{part-missing, part-deep, Coded, part-nothing, part-single, part_low, part-open}
use Rattle.parts.proofs.Laws.{part-middle, part-outgoing, part-incoming, part-high, group-short, group-few}
use Rattle.parts.proofs.Laws.{group-many, group-run}
use Rattle.parts.proofs.Remaining.{remaining-start, remaining-next, remaining-refused}
use Rattle.parts.proofs.Remaining.{remaining-end}
use Rattle.parts.proofs.ShapeWords.+part_run.Goals as goal

-- there it has its code, and may stand at this depth
coded : {left : ℕ} {words : List ℕ} {end : ℕ} {sizes : Sizes} {at : ℕ} {row : List ℕ} → at < end → 0 < left
    → Coded left words end sizes at row
coded h p = record { code_in = h; level = p }

pub part-returns-then-self-at : goal.part-returns-then-self-at
part-returns-then-self-at t c =
    part-missing c.args.self.now.words.now c.args.self.now.end c.args.self.now.sizes c.args.at c.args.row.now
    c.args.left c.if-self-at.true

pub part-returns-then-left-eq0 : goal.part-returns-then-left-eq0
part-returns-then-left-eq0 t c =
    part-deep c.args.self.now.words.now c.args.self.now.end c.args.self.now.sizes c.args.at c.args.row.now
    c.args.left c.if-self-at.false c.if-left-eq0.true

pub part-returns-then-self-at-lt2 : goal.part-returns-then-self-at-lt2
part-returns-then-self-at-lt2 t c =
    group-short (coded c.if-self-at.false (omega arith)) (omega arith)
    (omega arith) c.if-self-at-lt2.true

pub part-returns-then-count-lt-MIN_GROUP : goal.part-returns-then-count-lt-MIN_GROUP
part-returns-then-count-lt-MIN_GROUP t c =
    group-few (coded c.if-self-at.false (omega arith)) (omega
    arith) (omega arith) c.if-self-at-lt2.false c.if-count-lt-MIN_GROUP.true

pub part-returns-then-count-gt-MAX_GROUP : goal.part-returns-then-count-gt-MAX_GROUP
part-returns-then-count-gt-MAX_GROUP t c =
    group-many (coded c.if-self-at.false (omega arith)) (omega
    arith) (omega arith) c.if-self-at-lt2.false
    c.if-count-gt-MAX_GROUP.true

pub part-returns-in-0 : goal.part-returns-in-0
part-returns-in-0 t c = part-nothing (coded c.if-self-at.false (omega arith)) c.in-0.is

pub part-returns-in-18 : goal.part-returns-in-18
part-returns-in-18 t c = part-open (coded c.if-self-at.false (omega arith)) c.in-18.is

pub part-returns-in-1-to-3 : goal.part-returns-in-1-to-3
part-returns-in-1-to-3 t c =
    part-single (coded c.if-self-at.false (omega arith)) (omega arith) (omega arith)
    c.part.ensures

pub part-returns-in-4-to-15 : goal.part-returns-in-4-to-15
part-returns-in-4-to-15 t c = part_low (coded c.if-self-at.false (omega arith))
    (omega arith) (omega arith)

pub part-returns-else-count-gt-MAX_GROUP : goal.part-returns-else-count-gt-MAX_GROUP
part-returns-else-count-gt-MAX_GROUP t c =
    group-run (coded c.if-self-at.false (omega arith)) (omega
    arith) (omega arith) c.if-self-at-lt2.false
    c.if-count-lt-MIN_GROUP.false c.if-count-gt-MAX_GROUP.false c.run.ensures

pub part-returns-in-19-to-255 : goal.part-returns-in-19-to-255
part-returns-in-19-to-255 t c =
    part-middle (coded c.if-self-at.false (omega arith)) (omega arith) (omega
    arith) (omega arith)

pub part-returns-in-256-to-319 : goal.part-returns-in-256-to-319
part-returns-in-256-to-319 t c =
    part-outgoing (coded c.if-self-at.false (omega arith)) (omega arith)
    (omega arith) c.link.ensures

pub part-returns-in-320-to-383 : goal.part-returns-in-320-to-383
part-returns-in-320-to-383 t c =
    part-incoming (coded c.if-self-at.false (omega arith)) (omega arith)
    (omega arith)
    c.link-in-320-to-383.ensures

pub part-returns-in_default : goal.part-returns-in_default
part-returns-in_default t c = part-high (coded c.if-self-at.false (omega arith)) (omega arith)

pub run-loop-init : goal.run-loop-init
run-loop-init t c =
    let all : c.args.count - 0 ≡ c.args.count = omega arith in
    rw all
    (remaining-start c.args.left c.args.self.now.words.now c.args.self.now.end c.args.self.now.sizes c.args.count
    c.args.at c.args.row.now)

pub run-loop-preserved : goal.run-loop-preserved
run-loop-preserved t c =
    let one_less : c.args.count - (c.loop.counter + 1) ≡ c.args.count - c.loop.counter - 1 = omega arith in
    rw one_less
    (remaining-next c.loop.invariant c.part.new.row (omega arith) c.in_ok-next.next c.in_ok-next.ensures
    c.part.auto.row)

pub run-returns-in_err-next : goal.run-returns-in_err-next
run-returns-in_err-next t c =
    let p = err_from_is_err_and c.from_residual.result c.from_residual.ensures.1 in
    rw (p.1, p.2)
    (remaining-refused c.loop.invariant c.part.new.row (omega arith) _ _ c.in_err-next.ensures)

pub run-returns : goal.run-returns
run-returns t c = remaining-end c.loop.invariant (omega arith)

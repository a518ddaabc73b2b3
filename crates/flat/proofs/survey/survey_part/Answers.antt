-- `flat::survey_part` surveys a part. The invariant: of every part that stands there some run is left. The measure is
-- the number of words that are left. Assumes nothing.
use Prim.Native.Nat.{ℕ, ◌+◌}
use mathlib.Core.Path.{◌≡◌, ◌∙◌, ap}
use mathlib.Core.List.{List}
use native.Mathlib.Omega.{arith}
use lib.ListN.{length, get_or, length-replicate}
use Rattle.words.specs.Limits.{max_labels}
use Rattle.bags.specs.Part.{Part, Parts, none, more}
use Rattle.board.proofs.Tally.{tally-le}
use Rattle.parts.proofs.Trees.{no-entry}
use Rattle.flat.specs.Places.{must, Standing}
use Rattle.flat.proofs.Codes.{link-size}
use Rattle.flat.proofs.Pending.{Pending, Step, pending-start, pending-room, pending_next, pending_done}
use Rattle.flat.proofs.survey.survey_part.Goals as goal
use Rattle.flat.proofs.survey.survey_part.Goals.{After-must_at-needed, At-loop-at, Start}

-- no label has a place at the entry
blank : (s : Start) (k : ℕ) → get_or s.args.places.now k 0 ≡ 0
blank s k = ap (λ (l : List ℕ). get_or l k 0) s.requires.blank ∙ no-entry max_labels k

full : (s : Start) → length s.args.places.now ≡ max_labels
full s = ap length s.requires.blank ∙ length-replicate {A = ℕ} max_labels 0

-- what is left of the part that was asked for
left : (l : At-loop-at) → (ps : Parts)
    × Pending l.args.words.now l.args.end l.requires.part l.loop-at.at l.loop-at.places
    l.loop-at.needed ps
left l = l.loop-at.invariant.1 l.requires.part l.requires.standing

-- what a turn does, and what is left after it
step : (c : After-must_at-needed) → Step c.args.words.now c.loop-at.at c.loop-at.places c.in_ok-size.size
    c.enter.new.places c.must_at-needed.result
step c = record {
  sized = c.in_ok-size.ensures.1;
  some = λ e. absurd (omega (arith, c.in_ok-size.ensures.0, c.in_ok-size.ensures.1));
  entry = c.enter.ensures;
  must = c.must_at-needed.ensures;
}

next : (c : After-must_at-needed) (p : Part) → Standing c.args.words.now c.args.core c.args.end p → (ps : Parts)
    × Pending c.args.words.now c.args.end p
    (c.loop-at.at + c.in_ok-size.size) c.enter.new.places
    (c.loop-at.needed + c.must_at-needed.result) ps
next c p standing =
    let before = c.loop-at.invariant.1 p standing in
    pending_next (step c) before.0 before.1 c.loop-at.invariant.0 (omega arith) c.requires.end-in

pub loop-at-init : goal.loop-at-init
loop-at-init c = (
  c.requires.start,
  λ p standing. (
    more p none,
    pending-start c.args.places.now standing (full
        (goal.at.loop-at-init c).Start) (blank (goal.at.loop-at-init c).Start),
  ),
)

pub enter-requires : goal.enter-requires
enter-requires c =
    record {
      inside = omega (arith, c.requires.end-in);
      label = λ _. link-size (get_or c.args.words.now c.loop-at.at 0)
          (λ e. absurd (omega (arith, c.in_ok-size.ensures.0)));
      full = (left (goal.at.enter-requires c).At-loop-at).1.placed.full;
      short = c.requires.short;
    }

pub must_at-needed-requires : goal.must_at-needed-requires
must_at-needed-requires c =
    let run = left (goal.at.must_at-needed-requires c).At-loop-at in
    record {
      inside = omega (arith, c.requires.end-in);
      room = λ l. omega (arith, c.requires.end-in, pending-room run.0 run.1 (omega arith) l);
    }

pub overflow_add-needed : goal.overflow_add-needed
overflow_add-needed c =
    let run = next c c.requires.part c.requires.standing in
    omega (
      arith,
      run.1.count,
      tally-le (must c.args.words.now c.enter.new.places) max_labels,
    )

pub overflow_add-at : goal.overflow_add-at
overflow_add-at c =
    let run = next c c.requires.part c.requires.standing in
    omega (arith, run.1.standing.ends, c.requires.end-in, c.requires.short)

pub loop-at-preserved : goal.loop-at-preserved
loop-at-preserved c = (omega (arith, c.loop-at.invariant.0), next c)

pub returns : goal.returns
returns c p standing =
    let run = c.loop-at.invariant.1 p standing in
    pending_done run.0 run.1 (omega arith)

-- What the interval evaluator answers for a part at a place, and for the first parts of a run (section 8.2 of the
-- paper); no part of a promise.
-- Evaluates    the next place, and the part's interval
-- joined       the interval of some parts of a choice or of all with others
-- JoinedWith   a span for some parts with one more; JoinedPart: the answer for them
-- Begins       the answer for the first parts of a run
-- LinkHere     a link stands at a place, whole; link_interval_at: its interval
-- TakesLinks   the answer for the first parts of a run and the links after them
-- Assumes nothing.
use Rattle.std.specs.Prelude.{ℕ, ◌+◌, ◌-◌, ◌*◌, ◌≤◌, ◌<◌, ◌≡◌, cond, List, length, get_or, eqb}
use Rattle.bags.specs.Part.{Part, limit_of}
use Rattle.bags.specs.Interval.{Interval, add, meet, link_interval, interval}
use Rattle.bags.specs.Span.{view, Small}
use Rattle.bags.specs.declared.Span.{Span}
use Rattle.parts.specs.Reading.{gathered}
use Rattle.parts.specs.Placed.{Placed}
use Rattle.trees.specs.Trees.{trees_at, tree_at}
use Rattle.joins.specs.declared.Eval.{Eval}
use Rattle.joins.specs.declared.Taken.{Taken}

-- The evaluator's answer for the part that stands at `at`, where `count` has the count of each label. The ends of its
-- span are at most 65,535 for each word of the part, so that no sum of them overflows.
pub record Evaluates (count : ℕ → ℕ) (at : ℕ) (t : Placed Part) (e : Eval) : Type 0 where
  pub next : e.next ≡ t.next
  pub span : view e.span ≡ interval t.value count
  pub small : Small (65535 * (t.next - at)) e.span

-- Some parts of a choice (16) or of all (17), and others after them.
abbrev pub joined : ℕ → Interval → Interval → Interval
joined code I J = cond (eqb code 16) (add I J) (meet I J)

-- A span for some parts of a choice or of all, with one more part of this interval, whose ends are at most so much.
pub record JoinedWith (code : ℕ) (x : Span) (I : Interval) (most : ℕ) (r : Span) : Type 0 where
  pub span : view r ≡ joined code (view x) I
  pub small : (n : ℕ) → Small n x → Small (n + most) r

-- The answer for some parts, with that for one more.
pub record JoinedPart (code : ℕ) (before part r : Eval) : Type 0 where
  pub next : r.next ≡ part.next
  pub with : (n : ℕ) → Small n part.span → JoinedWith code before.span (view part.span) n r.span

-- The answer for the first parts of a run, so many of them: with whatever parts come next it makes the answer for all.
pub record Begins (count : ℕ → ℕ) (words : List ℕ) (left at code done : ℕ) (e : Eval) : Type 0 where
  pub order : at ≤ e.next
  pub next : (more : ℕ) →
      (trees_at (tree_at left words) (done + more) at).next ≡ (trees_at (tree_at left words) more e.next).next
  pub span : (more : ℕ) →
      interval (gathered code (trees_at (tree_at left words) (done + more) at).value) count
      ≡ joined code (view e.span)
      (interval (gathered code (trees_at (tree_at left words) more e.next).value) count)
  pub small : Small (65535 * (e.next - at)) e.span

-- A link stands at a place, with the three words after its code.
pub record LinkHere (words : List ℕ) (at : ℕ) : Type 0 where
  pub inside : at + 3 < length words
  pub low : 256 ≤ get_or words at 0
  pub high : get_or words at 0 ≤ 383

-- The interval of the link there, if its label counts so many.
abbrev pub link_interval_at : List ℕ → ℕ → ℕ → Interval
link_interval_at words at count = link_interval count (get_or words (at + 2) 0) (limit_of (get_or words (at + 3) 0))

-- Of so many parts some are taken, all of them links: with these the answer for the parts before is one for more.
pub record TakesLinks (count : ℕ → ℕ) (words : List ℕ) (left parts code : ℕ) (before : Eval) (r : Taken) : Type 0 where
  pub few : r.count ≤ parts
  pub begins : (at done : ℕ) → Begins count words left at code done before →
      Begins count words left at code (done + r.count) r.eval

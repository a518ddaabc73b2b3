-- What the evaluator's functions ask and tell; no part of a promise.
-- Evaluable       what evaluating a part asks
-- LinkEvaluable   what evaluating a link asks
-- Wrapped         a part's answer, from its wrappers and that for its core
-- Assumes nothing.
use Rattle.std.specs.Prelude.{ℕ, ◌≤◌, ◌<◌, ◌≡◌, List, length}
use Rattle.words.specs.Limits.{max_template}
use Rattle.bags.specs.Interval.{wrap_interval}
use Rattle.bags.specs.Span.{view, Small}
use Rattle.trees.specs.declared.Front.{Front}
use Rattle.joins.specs.Machine.{Source}
use Rattle.joins.specs.declared.Eval.{Eval}

-- A template's words, and where the counts come from.
pub record Evaluable (words links counts : List ℕ) : Type 0 where
  pub short : length words ≤ max_template
  pub source : Source links counts

-- The place of a link in a template's words.
pub record LinkEvaluable (links counts : List ℕ) (at : ℕ) : Type 0 where
  pub low : at < max_template
  pub source : Source links counts

-- The wrappers lower and free the core's interval; the part ends with its core.
pub record Wrapped (front : Front) (core r : Eval) : Type 0 where
  pub next : r.next ≡ core.next
  pub span : view r.span ≡ wrap_interval front.lowers front.frees (view core.span)
  pub small : (n : ℕ) → Small n core.span → Small n r.span

-- What a span of the code stands for; no part of a promise.
--   view        its interval
--   Small       its ends are at most a number
--   Addable     the ends of two can be added
-- Assumes nothing.
use Rattle.std.specs.Prelude.{ℕ, ◌≤◌, ◌≡◌, Bool, true, false, ltb, eqb}
use Rattle.bags.specs.Interval.{Interval, empty, within, from}
use Rattle.bags.specs.declared.Span.{Span}

-- The hi of a span that has no limit.
abbrev pub top : ℕ
top = 4294967295

-- Empty where the first test says so, else lo up where the second does, else lo to hi.
abbrev pub seen_as : Bool → Bool → ℕ → ℕ → Interval
seen_as true limitless lo hi = empty
seen_as false true lo hi = from lo
seen_as false false lo hi = within lo hi

-- The interval of a span: empty where hi is below lo, lo up where hi is the top, else lo to hi.
unfoldable pub view : Span → Interval
view x = seen_as (ltb x.hi x.lo) (eqb x.hi top) x.lo x.hi

-- lo is at most n, and so is hi unless it is the top.
unfoldable pub Small : ℕ → Span → Type 0
Small n x = (x.lo ≤ n) × ((x.hi ≡ top → ⊥) → x.hi ≤ n)

-- The ends of two spans are small enough that their sums are below the top.
pub record Addable (x y : Span) : Type 0 where
  pub first : Small 1000000000 x
  pub second : Small 1000000000 y

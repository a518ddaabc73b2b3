-- Intervals of repetitions (docs/FORMAT.md, "Intervals"; section 8.2 of the paper); no part of a promise: what they say
-- of bags are laws.
--   Interval, In, inside     a set of numbers of repetitions, and whether a number is in it
--   meet, add                the intersection, and the sums of a number of each
--   link_interval, star_interval, plus_interval   those of a link, and of a star and a plus over a part's
--   wrap_interval             that of any stars, pluses and optionals over a part's, taken together
--   interval                 the interval of a part for some counts
--   others_zero, fits         whether outgoing labels that a part does not name count 0; whether counts fit a shape,
--                            open or closed, by the interval of its part
-- This is a way to decide whether counts fit, for the evaluator and for tests; the promise is Bag's Fits.
-- Assumes nothing.
use Rattle.std.specs.Prelude.{ℕ, zero, suc, ◌+◌, ◌/◌, ◌≤◌, min, max, Bool, true, false, ◌&&◌, ◌||◌, cond, leb, eqb}
use Rattle.bags.specs.Part.{Limit, at_most, no-limit, Part, nothing, star, plus, optional, choice, all, link}
use Rattle.bags.specs.Part.{Parts, none, more, names}

-- No number; lo to hi, both inside; lo up.
pub data Interval : Type 0 where
  empty : Interval
  within : ℕ → ℕ → Interval
  from : ℕ → Interval

-- The number i is inside.
abbrev pub In : ℕ → Interval → Type 0
In i empty = ⊥
In i (within lo hi) = (lo ≤ i) × (i ≤ hi)
In i (from lo) = lo ≤ i

-- Whether the number i is inside.
abbrev pub inside : ℕ → Interval → Bool
inside i empty = false
inside i (within lo hi) = leb lo i && leb i hi
inside i (from lo) = leb lo i

-- The interval where the test says yes, else empty.
abbrev pub keep : Bool → Interval → Interval
keep true I = I
keep false I = empty

-- lo to hi, or empty.
abbrev pub range : ℕ → ℕ → Interval
range lo hi = keep (leb lo hi) (within lo hi)

-- The numbers in both: the interval of all. With an empty one it is empty.
abbrev pub meet : Interval → Interval → Interval
meet empty J = empty
meet (within a b) empty = empty
meet (within a b) (within c d) = range (max a c) (min b d)
meet (within a b) (from c) = range (max a c) b
meet (from a) empty = empty
meet (from a) (within c d) = range (max a c) d
meet (from a) (from c) = from (max a c)

-- The sums of a number of each: the interval of a choice. With an empty one it is empty.
abbrev pub add : Interval → Interval → Interval
add empty J = empty
add (within a b) empty = empty
add (within a b) (within c d) = within (a + c) (b + d)
add (within a b) (from c) = from (a + c)
add (from a) empty = empty
add (from a) (within c d) = from (a + c)
add (from a) (from c) = from (a + c)

-- Those i with i × low ≤ w.
abbrev pub low_room : ℕ → ℕ → Interval
low_room w zero = from 0
low_room w (suc l) = within 0 (w / suc l)

-- Those i with w ≤ i × high; where there is no limit, those from 1 on, and 0 too if w is 0.
abbrev pub high_room : ℕ → Limit → Interval
high_room w no-limit = from (min w 1)
high_room w (at_most zero) = keep (eqb w 0) (from 0)
high_room w (at_most (suc h)) = from ((w + h) / suc h)

-- The interval of a link whose label counts w: those i with i × low ≤ w ≤ i × high.
abbrev pub link_interval : ℕ → ℕ → Limit → Interval
link_interval w low high = meet (low_room w low) (high_room w high)

-- From 1 on, but empty where the interval is.
abbrev pub one_up : Interval → Interval
one_up empty = empty
one_up (within lo hi) = from 1
one_up (from lo) = from 1

-- From 1 to the interval's highest number, if it has one; empty where the interval is.
abbrev pub one_to_highest : Interval → Interval
one_to_highest empty = empty
one_to_highest (within lo hi) = range 1 hi
one_to_highest (from lo) = from 1

-- The interval of a star, from whether all labels of its part count 0, and the part's interval.
abbrev pub star_interval : Bool → Interval → Interval
star_interval true I = from 0
star_interval false I = one_up I

-- The interval of a plus, likewise: the part's own where all count 0. The paper's formula assumes that the part refuses
-- the empty bag.
abbrev pub plus_interval : Bool → Interval → Interval
plus_interval true I = I
plus_interval false I = one_to_highest I

-- The lowest number of a part's interval below a star or a plus: what is above 1 falls to 1.
abbrev pub lowered : Bool → ℕ → ℕ
lowered lowers lo = cond lowers (min lo 1) lo

-- The interval of a part below stars, pluses and optionals, from its own: whether one of them is a star or a plus,
-- which lower it, and whether one is a star or an optional, which free it of a limit.
abbrev pub wrap_interval : Bool → Bool → Interval → Interval
wrap_interval lowers frees empty = empty
wrap_interval lowers frees (within lo hi) = cond frees (from (lowered lowers lo)) (within (lowered lowers lo) hi)
wrap_interval lowers frees (from lo) = from (lowered lowers lo)

-- Whether the counts of all labels of a part are 0.
abbrev mutual
  pub all_zero : Part → (ℕ → ℕ) → Bool
  all_zero nothing w = true
  all_zero (star p) w = all_zero p w
  all_zero (plus p) w = all_zero p w
  all_zero (optional p) w = all_zero p w
  all_zero (choice ps) w = run_all_zero ps w
  all_zero (all ps) w = run_all_zero ps w
  all_zero (link label shape low high) w = eqb (w label) 0

  pub run_all_zero : Parts → (ℕ → ℕ) → Bool
  run_all_zero none w = true
  run_all_zero (more p ps) w = all_zero p w && run_all_zero ps w

-- The numbers i such that the counts of the part's labels are a sum of i of its bags.
abbrev mutual
  pub interval : Part → (ℕ → ℕ) → Interval
  interval nothing w = from 0
  interval (star p) w = star_interval (all_zero p w) (interval p w)
  interval (plus p) w = plus_interval (all_zero p w) (interval p w)
  interval (optional p) w = add (from 0) (interval p w)
  interval (choice ps) w = add_run ps w
  interval (all ps) w = meet_run ps w
  interval (link label shape low high) w = link_interval (w label) low high

  pub add_run : Parts → (ℕ → ℕ) → Interval
  add_run none w = within 0 0
  add_run (more p ps) w = add (interval p w) (add_run ps w)

  pub meet_run : Parts → (ℕ → ℕ) → Interval
  meet_run none w = from 0
  meet_run (more p ps) w = meet (interval p w) (meet_run ps w)

-- Whether the labels below a number that the part does not name count 0.
abbrev pub others_zero : ℕ → Part → (ℕ → ℕ) → Bool
others_zero zero p w = true
others_zero (suc k) p w = others_zero k p w && (names p k || eqb (w k) 0)

-- Whether the counts that a shape looks at fit it, where outgoing labels that are no kinds count 0: 1 is in its part's
-- interval, and it is open or the outgoing kinds that the part does not name count 0.
abbrev pub fits : Bool → ℕ → Part → (ℕ → ℕ) → Bool
fits is_open kinds p w = inside 1 (interval p w) && (is_open || others_zero kinds p w)

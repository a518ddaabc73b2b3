-- What lies in the intervals that the operations make.
--   in-range, in_meet, in-link, in-one-up, in-one-to   the numbers in each, exactly
--   Proper                  an interval lo to hi has lo ≤ hi; every operation keeps it
--   Split, split-add, add-split   the numbers in a sum are the sums of a number of each
--   convex                  what lies between two numbers of an interval lies in it
--   inside-exact            the test `inside` is true exactly for what lies in it
-- Assumes nothing.
use Prim.Native.Nat.{ℕ, zero, suc, ◌+◌, ◌-◌, ◌*◌, ◌/◌, ◌≤◌, ◌<◌, min, max}
use mathlib.Core.Path.{◌≡◌, refl}
use mathlib.Core.Logic.{inl, inr, ⊎_elim, ◌↔◌}
use mathlib.Core.Bool.{Bool, true, false, false≢true}
use native.Mathlib.Omega.{arith}
use native.Mathlib.Nat.{le-div_iff_mul-le, div-lt_iff_lt-mul}
use lib.Dec.{eqb, leb}
use borrow.Author.Tests.{leb-true, leb-false, le-leb, eqb-true, eqb-false}
use Rattle.bags.specs.Part.{Limit, at_most, no-limit}
use Rattle.bags.specs.Interval.{Interval, empty, within, from, In, inside, keep, range, meet, add, low_room}
use Rattle.bags.specs.Interval.{high_room, link_interval, one_up, one_to_highest}
use Rattle.bags.proofs.Copies.{UnderTimes}
use Rattle.words.proofs.Bools.{and_first, and_second, and_both}

range-cases : (t : Bool) (lo hi i : ℕ) → leb lo hi ≡ t → In i (keep t (within lo hi)) ↔ ((lo ≤ i) × (i ≤ hi))
range-cases true lo hi i e = (λ h. h, λ h. h)
range-cases false lo hi i e = (λ h. absurd h, λ h. let g : hi < lo = leb-false lo hi e in omega arith)

in-range : (lo hi i : ℕ) → In i (range lo hi) ↔ ((lo ≤ i) × (i ≤ hi))
in-range lo hi i = range-cases (leb lo hi) lo hi i refl

pub in_meet : (I J : Interval) (i : ℕ) → In i (meet I J) ↔ (In i I × In i J)
in_meet empty J i = (λ h. absurd h, λ h. h.0)
in_meet (within a b) empty i = (λ h. absurd h, λ h. h.1)
in_meet (within a b) (within c d) i =
    let r = in-range (max a c) (min b d) i in (λ h. let g = r.0 h in omega arith, λ h. r.1 (omega arith))
in_meet (within a b) (from c) i =
    let r = in-range (max a c) b i in (λ h. let g = r.0 h in omega arith, λ h. r.1 (omega arith))
in_meet (from a) empty i = (λ h. absurd h, λ h. h.1)
in_meet (from a) (within c d) i =
    let r = in-range (max a c) d i in (λ h. let g = r.0 h in omega arith, λ h. r.1 (omega arith))
in_meet (from a) (from c) i = (λ h. omega arith, λ h. omega arith)

-- An interval lo to hi has a number in it.
abbrev pub Proper : Interval → Type 0
Proper empty = Unit {0}
Proper (within lo hi) = lo ≤ hi
Proper (from lo) = Unit {0}

keep-proper : (t : Bool) (lo hi : ℕ) → leb lo hi ≡ t → Proper (keep t (within lo hi))
keep-proper true lo hi e = leb-true lo hi e
keep-proper false lo hi e = tt

pub range-proper : (lo hi : ℕ) → Proper (range lo hi)
range-proper lo hi = keep-proper (leb lo hi) lo hi refl

pub meet-proper : (I J : Interval) → Proper I → Proper J → Proper (meet I J)
meet-proper empty J p q = tt
meet-proper (within a b) empty p q = tt
meet-proper (within a b) (within c d) p q = range-proper (max a c) (min b d)
meet-proper (within a b) (from c) p q = range-proper (max a c) b
meet-proper (from a) empty p q = tt
meet-proper (from a) (within c d) p q = range-proper (max a c) d
meet-proper (from a) (from c) p q = tt

pub add-proper : (I J : Interval) → Proper I → Proper J → Proper (add I J)
add-proper empty J p q = tt
add-proper (within a b) empty p q = tt
add-proper (within a b) (within c d) p q = omega arith
add-proper (within a b) (from c) p q = tt
add-proper (from a) empty p q = tt
add-proper (from a) (within c d) p q = tt
add-proper (from a) (from c) p q = tt

-- i is a sum of one of I and one of J.
abbrev pub Split : Interval → Interval → ℕ → Type 0
Split I J i = (j : ℕ) × (l : ℕ) × (j + l ≡ i) × In j I × In l J

pub split-add : (I J : Interval) (i : ℕ) → Split I J i → In i (add I J)
split-add empty J i t = t.3
split-add (within a b) empty i t = t.4
split-add (within a b) (within c d) i t = omega arith
split-add (within a b) (from c) i t = omega arith
split-add (from a) empty i t = t.4
split-add (from a) (within c d) i t = omega arith
split-add (from a) (from c) i t = omega arith

pub add-split : (I J : Interval) (i : ℕ) → Proper I → Proper J → In i (add I J) → Split I J i
add-split empty J i p q h = absurd h
add-split (within a b) empty i p q h = absurd h
add-split (within a b) (within c d) i p q h = (min b (i - c), i - min b (i - c), omega arith, omega arith, omega arith)
add-split (within a b) (from c) i p q h = (a, i - a, omega arith, omega arith, omega arith)
add-split (from a) empty i p q h = absurd h
add-split (from a) (within c d) i p q h = (i - c, c, omega arith, omega arith, omega arith)
add-split (from a) (from c) i p q h = (a, i - a, omega arith, omega arith, omega arith)

-- What lies between two numbers of an interval lies in it.
pub convex : (I : Interval) (a i b : ℕ) → a ≤ i → i ≤ b → In a I → In b I → In i I
convex empty a i b p q h g = h
convex (within lo hi) a i b p q h g = omega arith
convex (from lo) a i b p q h g = omega arith

-- A link with count w: those i with i × low ≤ w ≤ i × high, each side by itself and both.
in-low : (w low i : ℕ) → In i (low_room w low) ↔ (i * low ≤ w)
in-low w zero i = (λ h. omega arith, λ h. omega arith)
in-low w (suc l) i = (
  λ h. (le-div_iff_mul-le {k = suc l} (omega arith)).0 h.1,
  λ h. (omega arith, (le-div_iff_mul-le {k = suc l} (omega arith)).1 h),
)

zero-case : (t : Bool) (w i : ℕ) → eqb w 0 ≡ t → In i (keep t (from 0)) ↔ (w ≤ i * 0)
zero-case true w i e = (λ h. let g : w ≡ 0 = eqb-true w 0 e in omega arith, λ h. omega arith)
zero-case false w i e = (λ h. absurd h, λ h. absurd (eqb-false w 0 e (omega arith)))

in-high : (w : ℕ) (high : Limit) (i : ℕ) → In i (high_room w high) ↔ UnderTimes i w high
in-high w (at_most zero) i = zero-case (eqb w 0) w i refl
in-high w (at_most (suc h)) i = (
  λ g. let f : w + h < suc i * suc h = (div-lt_iff_lt-mul {k = suc h} (omega arith)).0 (omega arith) in omega arith,
  λ g. let f : (w + h) / suc h < suc i = (div-lt_iff_lt-mul {k = suc h} (omega arith)).1 (omega arith) in omega arith,
)
in-high zero no-limit i = (λ h. inr refl, λ h. omega arith)
in-high (suc w) no-limit i = (λ h. inl (omega arith), ⊎_elim (λ h. omega arith) (λ h. omega arith))

pub in-link : (w low : ℕ) (high : Limit) (i : ℕ)
    → In i (link_interval w low high) ↔ ((i * low ≤ w) × UnderTimes i w high)
in-link w low high i = (
  λ h.
      let g = (in_meet (low_room w low) (high_room w high) i).0 h in
      ((in-low w low i).0 g.0, (in-high w high i).0 g.1),
  λ h. (in_meet (low_room w low) (high_room w high) i).1 ((in-low w low i).1 h.0, (in-high w high i).1 h.1),
)

low-proper : (w low : ℕ) → Proper (low_room w low)
low-proper w zero = tt
low-proper w (suc l) = omega arith

keep-from-proper : (t : Bool) → Proper (keep t (from 0))
keep-from-proper true = tt
keep-from-proper false = tt

high-proper : (w : ℕ) (high : Limit) → Proper (high_room w high)
high-proper w (at_most zero) = keep-from-proper (eqb w 0)
high-proper w (at_most (suc h)) = tt
high-proper w no-limit = tt

pub link-proper : (w low : ℕ) (high : Limit) → Proper (link_interval w low high)
link-proper w low high = meet-proper (low_room w low) (high_room w high) (low-proper w low) (high-proper w high)

-- 1 up, where something lies in I.
pub in-one-up : (I : Interval) (i : ℕ) → Proper I → In i (one_up I) ↔ ((1 ≤ i) × ((j : ℕ) × In j I))
in-one-up empty i p = (λ h. absurd h, λ h. h.1.1)
in-one-up (within lo hi) i p = (λ h. (h, (lo, (omega arith))), λ h. h.0)
in-one-up (from lo) i p = (λ h. (h, (lo, (omega arith))), λ h. h.0)

-- 1 up, where something that is i or more lies in I.
pub in-one-to : (I : Interval) (i : ℕ) → Proper I → In i (one_to_highest I) ↔ ((1 ≤ i) × ((j : ℕ) × (i ≤ j) × In j I))
in-one-to empty i p = (λ h. absurd h, λ h. h.1.2)
in-one-to (within lo hi) i p =
    (λ h. let g = (in-range 1 hi i).0 h in (g.0, (hi, g.1, (omega arith))), λ h. (in-range 1 hi i).1 (omega arith))
in-one-to (from lo) i p = (λ h. (h, (max lo i, omega arith, (omega arith))), λ h. h.0)

pub inside-exact : (i : ℕ) (I : Interval) → (inside i I ≡ true) ↔ In i I
inside-exact i empty = (λ e. false≢true e, λ h. absurd h)
inside-exact i (within lo hi) = (
  λ e. (leb-true lo i (and_first (leb lo i) (leb i hi) e), leb-true i hi (and_second (leb lo i) (leb i hi) e)),
  λ h. and_both (leb lo i) (leb i hi) (le-leb lo i h.0) (le-leb i hi h.1),
)
inside-exact i (from lo) = (λ e. leb-true lo i e, λ h. le-leb lo i h)

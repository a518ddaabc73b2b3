-- Joining intervals, and stars, pluses and optionals around them.
--   add_assoc, meet-assoc          how three are joined does not matter
--   add_none, none-add, meet-any, any-meet   joining with no part of a choice, and of an all
--   add_free                       a choice with a part that takes any number has no limit
--   wrap-star, wrap-plus, wrap-optional   each wrapper alone, as wrappers taken together
--   wrap-none, wrap-twice          no wrappers, and wrappers around wrappers
-- Assumes nothing.
use Prim.Native.Nat.{ℕ, ◌+◌, ◌≤◌, ◌<◌}
use mathlib.Core.Path.{◌≡◌, refl, sym, ◌∙◌, ap, ap₂}
use mathlib.Core.Bool.{Bool, true, false, ◌&&◌, ◌||◌, cond, true≢false}
use native.Mathlib.Omega.{arith}
use lib.Dec.{leb}
use borrow.Author.Tests.{leb-true, leb-false, le-leb}
use Rattle.bags.specs.Interval.{Interval, empty, within, from, inside, keep, meet, add}
use Rattle.bags.specs.Interval.{star_interval, plus_interval, lowered, wrap_interval}
use Rattle.bags.proofs.Intervals.{Proper, in_meet, meet-proper}
use Rattle.bags.proofs.Flatness.{proper-same}

-- ---- sums
pub add_assoc : (I J K : Interval) → add (add I J) K ≡ add I (add J K)
add_assoc empty J K = refl
add_assoc (within a b) empty K = refl
add_assoc (within a b) (within c d) empty = refl
add_assoc (within a b) (within c d) (within e f) =
    let low : a + c + e ≡ a + (c + e) = omega arith in
    let high : b + d + f ≡ b + (d + f) = omega arith in
    ap₂ within low high
add_assoc (within a b) (within c d) (from e) = let low : a + c + e ≡ a + (c + e) = omega arith in ap from low
add_assoc (within a b) (from c) empty = refl
add_assoc (within a b) (from c) (within e f) = let low : a + c + e ≡ a + (c + e) = omega arith in ap from low
add_assoc (within a b) (from c) (from e) = let low : a + c + e ≡ a + (c + e) = omega arith in ap from low
add_assoc (from a) empty K = refl
add_assoc (from a) (within c d) empty = refl
add_assoc (from a) (within c d) (within e f) = let low : a + c + e ≡ a + (c + e) = omega arith in ap from low
add_assoc (from a) (within c d) (from e) = let low : a + c + e ≡ a + (c + e) = omega arith in ap from low
add_assoc (from a) (from c) empty = refl
add_assoc (from a) (from c) (within e f) = let low : a + c + e ≡ a + (c + e) = omega arith in ap from low
add_assoc (from a) (from c) (from e) = let low : a + c + e ≡ a + (c + e) = omega arith in ap from low

pub add_none : (I : Interval) → add I (within 0 0) ≡ I
add_none empty = refl
add_none (within lo hi) =
    let l : lo + 0 ≡ lo = omega arith in
    let h : hi + 0 ≡ hi = omega arith in
    ap₂ within l h
add_none (from lo) = let l : lo + 0 ≡ lo = omega arith in ap from l

pub none-add : (I : Interval) → add (within 0 0) I ≡ I
none-add empty = refl
none-add (within lo hi) =
    let l : 0 + lo ≡ lo = omega arith in
    let h : 0 + hi ≡ hi = omega arith in
    ap₂ within l h
none-add (from lo) = let l : 0 + lo ≡ lo = omega arith in ap from l

pub add_free : (I : Interval) → add I (from 0) ≡ wrap_interval false true I
add_free empty = refl
add_free (within lo hi) = let l : lo + 0 ≡ lo = omega arith in ap from l
add_free (from lo) = let l : lo + 0 ≡ lo = omega arith in ap from l

-- ---- meets
pub meet-assoc : (I J K : Interval) → Proper I → Proper J → Proper K → meet (meet I J) K ≡ meet I (meet J K)
meet-assoc I J K p q r =
    proper-same (meet (meet I J) K) (meet I (meet J K))
    (meet-proper (meet I J) K (meet-proper I J p q) r) (meet-proper I (meet J K) p (meet-proper J K q r))
    (λ i. (
      λ h.
          let (ij, k) = (in_meet (meet I J) K i).0 h in
          let (a, b) = (in_meet I J i).0 ij in
          (in_meet I (meet J K) i).1 (a, (in_meet J K i).1 (b, k)),
      λ h.
          let (a, jk) = (in_meet I (meet J K) i).0 h in
          let (b, k) = (in_meet J K i).0 jk in
          (in_meet (meet I J) K i).1 ((in_meet I J i).1 (a, b), k),
    ))

pub meet-any : (I : Interval) → Proper I → meet I (from 0) ≡ I
meet-any I p =
    proper-same (meet I (from 0)) I (meet-proper I (from 0) p tt) p
    (λ i. (λ h. ((in_meet I (from 0) i).0 h).0, λ h. (in_meet I (from 0) i).1 (h, omega arith)))

pub any-meet : (I : Interval) → Proper I → meet (from 0) I ≡ I
any-meet I p =
    proper-same (meet (from 0) I) I (meet-proper (from 0) I tt p) p
    (λ i. (λ h. ((in_meet (from 0) I i).0 h).1, λ h. (in_meet (from 0) I i).1 (omega arith, h)))

-- ---- wrappers
-- What is above 1 falls to 1, and 0 stays.
falls : (z : Bool) (lo : ℕ) → z ≡ leb lo 0 → lowered true lo ≡ cond z 0 1
falls true lo e = let h : lo ≤ 0 = leb-true lo 0 (sym e) in omega arith
falls false lo e = let h : 0 < lo = leb-false lo 0 (sym e) in omega arith

and_one : (b : Bool) → b && true ≡ b
and_one true = refl
and_one false = refl

-- 0 lies in an interval with a limit exactly if it starts with 0.
limited : (lo hi : ℕ) → leb lo 0 && leb 0 hi ≡ leb lo 0
limited lo hi = ap (λ (t : Bool). leb lo 0 && t) (le-leb 0 hi (omega arith)) ∙ and_one (leb lo 0)

pub wrap-star : (z : Bool) (I : Interval) → z ≡ inside 0 I → star_interval z I ≡ wrap_interval true true I
wrap-star true empty e = absurd (true≢false e)
wrap-star true (within lo hi) e = ap from (sym (falls true lo (e ∙ limited lo hi)))
wrap-star true (from lo) e = ap from (sym (falls true lo e))
wrap-star false empty e = refl
wrap-star false (within lo hi) e = ap from (sym (falls false lo (e ∙ limited lo hi)))
wrap-star false (from lo) e = ap from (sym (falls false lo e))

pub wrap-optional : (I : Interval) → add (from 0) I ≡ wrap_interval false true I
wrap-optional empty = refl
wrap-optional (within lo hi) = let l : 0 + lo ≡ lo = omega arith in ap from l
wrap-optional (from lo) = let l : 0 + lo ≡ lo = omega arith in ap from l

-- An interval that starts with 0 is not lowered.
stays : (lo : ℕ) → true ≡ leb lo 0 → lo ≡ lowered true lo
stays lo e = let h : lo ≤ 0 = leb-true lo 0 (sym e) in omega arith

pub wrap-plus : (z : Bool) (I : Interval) → Proper I → z ≡ inside 0 I → plus_interval z I ≡ wrap_interval true false I
wrap-plus true empty p e = refl
wrap-plus true (within lo hi) p e = ap (λ (n : ℕ). within n hi) (stays lo (e ∙ limited lo hi))
wrap-plus true (from lo) p e = ap from (stays lo e)
wrap-plus false empty p e = refl
wrap-plus false (within lo hi) p e =
    let h : 0 < lo = leb-false lo 0 (sym (e ∙ limited lo hi)) in
    ap (λ (t : Bool). keep t (within 1 hi)) (le-leb 1 hi (omega arith))
    ∙ ap (λ (n : ℕ). within n hi) (sym (falls false lo (e ∙ limited lo hi)))
wrap-plus false (from lo) p e = ap from (sym (falls false lo e))

pub wrap-none : (I : Interval) → I ≡ wrap_interval false false I
wrap-none empty = refl
wrap-none (within lo hi) = refl
wrap-none (from lo) = refl

lowered-twice : (a c : Bool) (lo : ℕ) → lowered a (lowered c lo) ≡ lowered (a || c) lo
lowered-twice true true lo = omega arith
lowered-twice true false lo = refl
lowered-twice false true lo = refl
lowered-twice false false lo = refl

pub wrap-twice : (a b c d : Bool) (I : Interval) →
    wrap_interval a b (wrap_interval c d I) ≡ wrap_interval (a || c) (b || d) I
wrap-twice a b c d empty = refl
wrap-twice a true c true (within lo hi) = ap from (lowered-twice a c lo)
wrap-twice a true c false (within lo hi) = ap from (lowered-twice a c lo)
wrap-twice a false c true (within lo hi) = ap from (lowered-twice a c lo)
wrap-twice a false c false (within lo hi) = ap (λ (n : ℕ). within n hi) (lowered-twice a c lo)
wrap-twice a b c d (from lo) = ap from (lowered-twice a c lo)

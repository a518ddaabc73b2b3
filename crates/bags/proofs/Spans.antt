-- What spans stand for, and that their ends stay small.
--   view-from, view-within      what a span stands for, by its ends
--   small-up, small-more        the spans with no limit; Small says less of a larger number
--   add-small-left, add-small-right   it says less of a sum
--   limit-some, high-some       the room of a link with a limit
--   zero-from, zero-only        the interval of a link whose label counts 0
-- Assumes nothing.
use Prim.Native.Nat.{ℕ, zero, suc, ◌+◌, ◌-◌, ◌/◌, ◌≤◌, ◌<◌}
use mathlib.Core.Path.{◌≡◌, refl, ◌∙◌, ap, ap₂, sym}
use mathlib.Core.Bool.{Bool}
use native.Mathlib.Omega.{arith}
use native.Mathlib.Nat.{not-suc-le-zero, div-le_self, div-lt_iff_lt-mul}
use borrow.Author.Tests.{le-ltb, eq-eqb, ne_eqb}
use Rattle.std.specs.Int.{div_ceil}
use Rattle.std.proofs.lemmas.Grind.{div_ceil_times}
use Rattle.std.proofs.lemmas.Nat.{le-div}
use Rattle.bags.specs.Part.{Limit, at_most, no-limit, limit_unless, limit_of}
use Rattle.bags.specs.Interval.{within, from, meet, high_room, link_interval}
use Rattle.bags.specs.Span.{top, seen_as, view, Small}
use Rattle.bags.specs.declared.Span.{Span}

abbrev pub span : ℕ → ℕ → Span
span a b = record { lo = a; hi = b }

pub view-from : (x : Span) → x.lo ≤ x.hi → x.hi ≡ top → view x ≡ from x.lo
unfolding view
view-from x h e = ap₂ (λ (s t : Bool). seen_as s t x.lo x.hi) (le-ltb x.hi x.lo h) (eq-eqb x.hi top e)

pub view-within : (x : Span) → x.lo ≤ x.hi → (x.hi ≡ top → ⊥) → view x ≡ within x.lo x.hi
unfolding view
view-within x h d = ap₂ (λ (s t : Bool). seen_as s t x.lo x.hi) (le-ltb x.hi x.lo h) (ne_eqb x.hi top d)

pub small-more : (m n : ℕ) (x : Span) → m ≤ n → Small m x → Small n x
unfolding Small
small-more m n x g h = (omega arith, λ d. let k : x.hi ≤ m = h.1 d in omega arith)

pub small-up : (n lo : ℕ) → lo ≤ n → Small n (span lo top)
unfolding Small
small-up n lo h = (h, λ d. absurd (d refl))

pub add-small-left : (m n : ℕ) (x : Span) → Small m x → Small (m + n) x
add-small-left m n x = small-more m (m + n) x (omega arith)

pub add-small-right : (m n : ℕ) (y : Span) → Small n y → Small (m + n) y
add-small-right m n y = small-more n (m + n) y (omega arith)

-- ---- the room of a link with a limit
pub limit-some : (high : ℕ) → (high ≡ 65535 → ⊥) → limit_of high ≡ at_most high
limit-some high d = ap (λ (t : Bool). limit_unless t high) (ne_eqb high 65535 d)

-- A quotient rounded up.
rounded-up : (w h : ℕ) → 0 < h → div_ceil w h ≡ (w + (h - 1)) / h
rounded-up w h g =
    let times = div_ceil_times w h g in
    let above : div_ceil w h ≤ (w + (h - 1)) / h = le-div (div_ceil w h) (w + (h - 1)) h g (omega arith) in
    let below : (w + (h - 1)) / h < div_ceil w h + 1 = (div-lt_iff_lt-mul {k = h} g).1 (omega arith) in
    omega arith

pub high-some : (w high : ℕ) → 0 < high → high_room w (at_most high) ≡ from (div_ceil w high)
high-some w zero g = absurd (not-suc-le-zero g)
high-some w (suc h) g =
    let e : h ≡ suc h - 1 = omega arith in
    ap (λ (n : ℕ). from ((w + n) / suc h)) e ∙ ap from (sym (rounded-up w (suc h) g))

-- ---- a link whose label counts 0
high-any : (high : Limit) → high_room 0 high ≡ from 0
high-any no-limit = refl
high-any (at_most zero) = refl
high-any (at_most (suc h)) =
    let f : (0 + h) / suc h < 1 = (div-lt_iff_lt-mul {k = suc h} (omega arith)).1 (omega arith) in
    let z : (0 + h) / suc h ≡ 0 = omega arith in
    ap from z

pub zero-from : (low : ℕ) (high : Limit) → low ≡ 0 → link_interval 0 low high ≡ from 0
zero-from zero high e = ap (meet (from 0)) (high-any high)
zero-from (suc l) high e = let z : ⊥ = omega arith in absurd z

pub zero-only : (low : ℕ) (high : Limit) → 0 < low → link_interval 0 low high ≡ within 0 0
zero-only zero high h = absurd (not-suc-le-zero h)
zero-only (suc l) high h =
    let z : 0 / suc l ≡ 0 = omega (arith, div-le_self 0 (suc l)) in
    ap₂ meet (ap (within 0) z) (high-any high)

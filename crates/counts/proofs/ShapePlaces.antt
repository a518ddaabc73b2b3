-- Where a shape's count of words stands.
-- place-done, place-next    the steps to it, with what the tests of the code give as premises
-- Assumes nothing.
use mathlib.Core.Path.{◌≡◌}
use mathlib.Core.List.{List}
use Prim.Native.Nat.{ℕ, zero, suc, ◌+◌, ◌-◌, ◌<◌}
use native.Mathlib.Omega.{arith}
use native.Mathlib.Numerals.{sub-one}
use lib.ListN.{get_or}
use Rattle.template.specs.Template.{shape_place}

pub place-done : (words : List ℕ) (n at : ℕ) → n ≡ 0 → at ≡ shape_place words n at
unfolding shape_place
place-done words n at e = rw e

pub place-next :
    (words : List ℕ) (n at size : ℕ) → 0 < n → size ≡ get_or words at 0 →
    shape_place words (n - 1) (at + 1 + size) ≡ shape_place words n at
unfolding shape_place
place-next words zero at size h e = absurd (omega arith)
place-next words (suc n) at size h e = rw (sub-one, e)

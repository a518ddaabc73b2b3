-- `lent::grid_size` multiplies two words, and the product fits. Assumes nothing.
use Prim.Native.Nat.{◌≤◌}
use native.Mathlib.Omega.{arith}
use native.Mathlib.Nat.{mul-le-mul}
use Rattle.lent.proofs.grid_size.Goals as goal

pub overflow_mul-result : goal.overflow_mul-result
overflow_mul-result c =
    let e = c.args.e in
    let cards : e.cards ≤ 65535 = omega arith in
    let shapes : e.shapes ≤ 65535 = omega arith in
    omega (arith, mul-le-mul cards shapes)

-- `walks::reciprocal` finds the reciprocal of a number of shapes. Assumes nothing.
use mathlib.Core.Path.{refl}
use native.Mathlib.Nat.{div-le_self}
use native.Mathlib.Omega.{arith}
use Rattle.walks.specs.Cards.{scale}
use Rattle.walks.proofs.card.reciprocal.Goals as goal

pub overflow_add-result : goal.overflow_add-result
overflow_add-result c = omega (arith, div-le_self scale c.args.shapes)

pub returns : goal.returns
returns c = record { one-shape = c.requires.0; few-shapes = c.requires.1; scaled = refl }

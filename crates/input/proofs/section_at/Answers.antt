-- `input::section_at` finds no section that passes the bytes. Assumes nothing.
use native.Mathlib.Omega.{arith}
use Rattle.input.specs.Input.{section_end}
use Rattle.input.proofs.section_at.Goals as goal

pub returns-then-bytes-at : goal.returns-then-bytes-at
unfolding section_end
returns-then-bytes-at c = omega arith

pub returns-then-bytes-end : goal.returns-then-bytes-end
unfolding section_end
returns-then-bytes-end c = omega arith

-- `sections::read_words` lends no more words than the buffer has. Assumes nothing.
use mathlib.Core.Path.{ap}
use Prim.Native.Nat.{◌/◌}
use native.Mathlib.Omega.{arith}
use lib.ListN.{length}
use Rattle.input.proofs.Words.{words-length}
use Rattle.sections.proofs.read_words.Goals as goal

pub returns : goal.returns
returns g c =
    omega (
      arith,
      ap length c.decode_all.ensures,
      words-length c.in_ok-section.section.now 0 (length
          c.in_ok-section.section.now / 2),
    )

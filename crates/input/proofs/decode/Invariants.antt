-- `input::decode` fills the front of `words`. The invariant: those below `i` are the words that stand in the bytes.
-- Assumes nothing.
use mathlib.Core.Path.{◌≡◌}
use lib.ListN.{length, take}
use Rattle.input.specs.Input.{words_from}
use Rattle.input.proofs.decode.Given as goal

abbrev pub invariant-loop-i : goal.invariant-loop-i
invariant-loop-i l =
    (length l.words ≡ length l.initial.words) × (take l.i l.words ≡ words_from l.bytes l.at l.i)

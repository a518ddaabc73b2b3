-- `input::word_at` gives the word at a byte. Assumes nothing.
use Rattle.std.proofs.Common.{rules}
use Rattle.input.specs.Input.{word_at}
use Rattle.input.proofs.word_at.Goals as goal

pub returns : goal.returns
unfolding word_at
returns c = search rules

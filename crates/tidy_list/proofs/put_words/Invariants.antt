-- `tidy_list::put_words` writes the bytes of words. The invariant: those of the words below the index are written.
-- Assumes nothing.
use lib.ListN.{take}
use Rattle.words.specs.Bytes.{write_words}
use Rattle.text.specs.Steps.{Adds}
use Rattle.tidy_list.proofs.put_words.Given as goal

abbrev pub invariant-loop-word : goal.invariant-loop-word
invariant-loop-word l = Adds l.initial.list (write_words (take l.word-index l.words)) l.list

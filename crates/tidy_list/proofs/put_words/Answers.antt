-- `tidy_list::put_words` writes the bytes of words. The invariant: those of the words below the index are written.
-- Assumes nothing.
use mathlib.Core.Path.{ap, ◌∙◌}
use mathlib.Core.List.{List, ◌++◌}
use Prim.Native.Nat.{ℕ}
use native.Mathlib.Omega.{arith}
use borrow.Author.Rules.{rules}
use lib.ListN.{take, get_or}
use lib.Seq.{length-take-le}
use Rattle.words.specs.Bytes.{write_words}
use Rattle.input.proofs.RoundTrip.{words_size}
use Rattle.text.proofs.Adding.{adds-append, adds-same}
use Rattle.tidy_list.proofs.Words.{write-next, word-bytes}
use Rattle.tidy_list.proofs.put_words.Goals as goal

pub bytes-requires : goal.bytes-requires
bytes-requires c =
    let words = c.args.words.now in
    let i = c.loop-word.word-index in
    omega (arith, words_size words, words_size (take i words), length-take-le i words (omega arith))

pub loop-word-preserved : goal.loop-word-preserved
loop-word-preserved c =
    let words = c.args.words.now in
    let i = c.loop-word.word-index in
    let bytes = word-bytes (get_or words i 0) (search rules) in
    adds-same (adds-append c.loop-word.invariant c.bytes.ensures)
    (ap (λ (l : List ℕ). write_words (take i words) ++ l) (c.to_le_bytes.ensures ∙ bytes)
    ∙ write-next words i (omega arith))

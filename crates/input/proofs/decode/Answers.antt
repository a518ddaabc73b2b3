-- `input::decode` fills the front of `words`. The invariant: those below `i` are the words that stand in the bytes.
-- Assumes nothing.
use mathlib.Core.List.{List, [], ◌∷◌, ◌++◌}
use mathlib.Core.Path.{◌≡◌, refl, sym, ◌∙◌, ap}
use Prim.Native.Nat.{ℕ}
use native.Mathlib.Numerals.{add-one}
use native.Mathlib.Omega.{arith}
use lib.ListN.{take, set, length-set}
use lib.Seq.{length-take-le, take-suc-set}
use Rattle.input.specs.Input.{words_from}
use Rattle.input.proofs.Inputs.{words-next}
use Rattle.input.proofs.decode.Goals as goal

pub loop-i-init : goal.loop-i-init
unfolding words_from
loop-i-init c = (refl, refl)

pub loop-i-preserved : goal.loop-i-preserved
loop-i-preserved c =
    let i = c.loop-i.i in
    let words = c.loop-i.words in
    let bytes = c.args.bytes.now in
    let word = c.word_at.result in (
      length-set words i word ∙ c.loop-i.invariant.0,
      ap (λ (n : ℕ). take n (set words i word)) (add-one i)
          ∙ take-suc-set words i word (omega arith)
          ∙ ap (λ (l : List ℕ). l ++ (word ∷ [])) c.loop-i.invariant.1
          ∙ ap (λ (w : ℕ). words_from bytes c.args.at i ++ (w ∷ [])) c.word_at.ensures
          ∙ sym (words-next bytes c.args.at i),
    )

pub returns : goal.returns
returns c =
    let all_words : c.loop-i.i ≡ c.args.count = omega arith in
    record {
      size = sym (length-take-le c.args.count c.loop-i.words (omega arith));
      holds = rw all_words at c.loop-i.invariant.1;
    }

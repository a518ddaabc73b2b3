-- `text::Writer::line` adds a word, then each number after a space, then the end of the line. Assumes nothing.
use mathlib.Core.Path.{◌≡◌, sym, ap, ◌∙◌}
use mathlib.Core.List.{List, [], ◌∷◌, ◌++◌, append_assoc, append-nil}
use Prim.Native.Nat.{ℕ}
use native.Mathlib.Omega.{arith}
use lib.ListN.{length, take, length-append}
use lib.Seq.{take-length}
use Rattle.text.specs.Text.{newline}
use Rattle.text.specs.Steps.{spaced, line_text}
use Rattle.text.proofs.Adding.{adds-append, adds-same}
use Rattle.text.proofs.Lines.{line-length, spaced-next, spaced-room}
use Rattle.text.proofs.Writer.line.Goals as goal

pub bytes-requires : goal.bytes-requires
bytes-requires c = omega (arith, line-length c.args.word.now c.args.numbers.now)

pub loop-number-init : goal.loop-number-init
unfolding spaced
loop-number-init c = adds-same c.bytes.ensures (sym (append-nil c.args.word.now))

pub byte-requires : goal.byte-requires
byte-requires c =
    let numbers = c.args.numbers.now in
    omega (
      arith,
      line-length c.args.word.now numbers,
      length-append c.args.word.now (spaced (take c.loop-number.number-index numbers)),
      spaced-room numbers c.loop-number.number-index (omega arith),
    )

pub number-requires : goal.number-requires
number-requires c =
    let numbers = c.args.numbers.now in
    omega (
      arith,
      line-length c.args.word.now numbers,
      length-append c.args.word.now (spaced (take c.loop-number.number-index numbers)),
      spaced-room numbers c.loop-number.number-index (omega arith),
    )

pub loop-number-preserved : goal.loop-number-preserved
loop-number-preserved c =
    let numbers = c.args.numbers.now in
    let i = c.loop-number.number-index in
    adds-same (adds-append c.loop-number.invariant (adds-append c.byte.ensures c.number.ensures))
    (append_assoc c.args.word.now (spaced (take i numbers)) _
    ∙ ap (λ (l : List ℕ). c.args.word.now ++ l) (sym (spaced-next numbers i (omega arith))))

-- all numbers are added
all : (numbers : List ℕ) {i : ℕ} → i ≡ length numbers → take i numbers ≡ numbers
all numbers e = ap (λ (n : ℕ). take n numbers) e ∙ take-length numbers

pub byte-requires-2 : goal.byte-requires-2
byte-requires-2 c =
    let word = c.args.word.now in
    let numbers = c.args.numbers.now in
    let i = c.loop-number.number-index in
    let end : i ≡ length numbers = omega arith in
    omega (
      arith,
      line-length word numbers,
      length-append word (spaced (take i numbers)),
      ap (λ (l : List ℕ). length (spaced l)) (all numbers end),
    )

pub returns : goal.returns
unfolding line_text
returns c =
    let word = c.args.word.now in
    let numbers = c.args.numbers.now in
    let end : c.loop-number.number-index ≡ length numbers = omega arith in
    adds-same (adds-append c.loop-number.invariant c.byte-2.ensures)
    (ap (λ (l : List ℕ). (word ++ spaced l) ++ (newline ∷ [])) (all numbers end)
    ∙ append_assoc word (spaced numbers) (newline ∷ []))

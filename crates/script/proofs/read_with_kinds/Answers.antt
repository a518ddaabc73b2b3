-- `script::read_with_kinds` reads a script: a law of proofs/Reading for each answer.
-- Assumes nothing.
use mathlib.Core.Path.{sym, ap, ◌∙◌}
use native.Mathlib.Omega.{arith}
use Rattle.words.specs.Reading.{said_of}
use Rattle.script.specs.Script.{script_values}
use Rattle.script.proofs.Reading.{script-short, script-cards, script-links, script-size, script-links-read}
use Rattle.script.proofs.read_with_kinds.Goals as goal

pub returns-then-script-lt2 : goal.returns-then-script-lt2
returns-then-script-lt2 c = sym (ap (said_of script_values) (script-short _ _ (omega arith)))

pub returns-then-from-gt-MAX_CARDS : goal.returns-then-from-gt-MAX_CARDS
returns-then-from-gt-MAX_CARDS c = sym (ap (said_of script_values) (script-cards _ _ (omega arith) (omega arith)))

pub returns-then-from-gt-MAX_LINKS : goal.returns-then-from-gt-MAX_LINKS
returns-then-from-gt-MAX_LINKS c = sym (ap (said_of script_values) (script-links _ _ (omega arith) (omega arith)
    (omega arith)))

pub returns-then-script-from : goal.returns-then-script-from
returns-then-script-from c =
    sym
    (ap (said_of script_values)
    (script-size _ _ (omega arith) (omega arith) (omega arith) (λ e. c.if-script-from.true (omega arith))))

pub read_links-requires : goal.read_links-requires
read_links-requires c = record { order = omega arith; few = omega arith; end = omega arith }

pub returns : goal.returns
returns c =
    c.read_links.ensures
    ∙ sym (ap (said_of script_values) (script-links-read _ _ (omega arith) (omega arith) (omega arith) (omega arith)))

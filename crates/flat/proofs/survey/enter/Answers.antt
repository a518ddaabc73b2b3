-- `flat::enter` enters the place of a link. Assumes nothing.
use mathlib.Core.Path.{sym, ap, ◌∙◌}
use Prim.Native.Nat.{ℕ}
use native.Mathlib.Omega.{arith}
use lib.ListN.{set}
use Rattle.flat.proofs.Codes.{entered-link, entered-other}
use Rattle.flat.proofs.survey.enter.Goals as goal

pub returns-then-code-ge256 : goal.returns-then-code-ge256
returns-then-code-ge256 c =
    let places = c.args.places.now in
    ap (λ (k : ℕ). set places k c.args.at) c.from.ensures
    ∙ sym (entered-link c.args.words.now c.args.at places (omega arith))

pub returns-else-code-ge256 : goal.returns-else-code-ge256
returns-else-code-ge256 c =
    sym (entered-other c.args.words.now c.args.at c.args.places.now (omega arith))

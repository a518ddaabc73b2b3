-- `text::Writer::number` adds the digits of the tenth part and then the last digit. Assumes nothing.
use mathlib.Core.Path.{sym, ap}
use native.Mathlib.Omega.{arith}
use lib.ListN.{length}
use Rattle.text.proofs.Adding.{adds-append, adds-same}
use Rattle.text.proofs.Digits.{digits-small, digits_more, digits-more-length}
use Rattle.text.proofs.Writer.+number.Goals as goal

pub byte-requires : goal.byte-requires
byte-requires t c = omega (arith, ap length (digits-small c.args.n (omega arith)))

pub returns-then-n-lt10 : goal.returns-then-n-lt10
returns-then-n-lt10 t c = adds-same c.byte.ensures (sym (digits-small c.args.n (omega arith)))

pub number-requires : goal.number-requires
number-requires t c =
    (omega arith, omega (arith, digits-more-length c.args.n (omega arith) (omega arith)))

pub byte-requires-2 : goal.byte-requires-2
byte-requires-2 t c = omega (arith, digits-more-length c.args.n (omega arith) (omega arith))

pub returns : goal.returns
returns t c =
    adds-same (adds-append c.number.ensures c.byte-2.ensures) (sym (digits_more c.args.n (omega arith) (omega arith)))

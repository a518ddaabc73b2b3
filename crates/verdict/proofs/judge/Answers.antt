-- `verdict::judge` answers as the format says: where everything is read, what testing the grid finds. Assumes nothing.
use Rattle.lent.proofs.KnownSheet.{sheet, asked}
use Rattle.lent.proofs.Readings.{lent-asked}
use Rattle.verdict.proofs.judge.Goals as goal

pub returns : goal.returns
returns c =
    let l = c.in_ok-e.ensures in
    let k = l.booked.known in
    rw (lent-asked l) ((rw c.list_sheet-listed.ensures at c.judge_of.ensures) (sheet k) (asked k))

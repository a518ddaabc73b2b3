-- `desks::desk_typings` answers as the format says: a law of proofs/WaysOut for each way out. Assumes nothing.
use mathlib.Core.Logic.{⊎_elim}
use native.Mathlib.Omega.{arith}
use Rattle.lent.proofs.KnownSheet.{sheet, asked}
use Rattle.lent.proofs.Readings.{listed-asked}
use Rattle.desks.proofs.WaysOut.{desks-radio, desks-television, desks-large, desks-done}
use Rattle.desks.proofs.desk_typings.Goals as goal

pub returns-then-radio-size : goal.returns-then-radio-size
returns-then-radio-size c =
    let l = c.in_ok-e.ensures in
    let whole = c.grid_size-size.ensures in
    let taken = listed-asked l in
    ⊎_elim
    (λ r. desks-radio _ _ _ (sheet l.known) taken _ (λ e. omega (arith, whole, r)))
    (⊎_elim
    (λ t. desks-television _ _ _ (sheet l.known) taken _ (omega (arith, whole, t.0)) (λ e. omega (arith, whole, t.1)))
    (λ g. desks-large _ _ _ (sheet l.known) taken _ (omega (arith, whole, g.0)) (omega (arith, whole, g.1))
    (λ e. omega (arith, whole, g.2))))
    c.then-radio-size.either

pub returns : goal.returns
returns c =
    let l = c.in_ok-e.ensures in
    let whole = c.grid_size-size.ensures in
    desks-done _ _ _ (sheet l.known) (listed-asked l) _ (omega (arith, whole, c.if-radio-size.false))
    (omega (arith, whole, c.if-television-size.false)) _ _ (omega (arith, whole, c.if-large-size.false))
    ((rw c.list_sheet-listed.ensures at c.desks_of.ensures) (sheet l.known) (asked l.known))

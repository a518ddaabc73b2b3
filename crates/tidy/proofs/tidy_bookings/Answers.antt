-- `tidy::tidy_bookings` answers as the format says: a law of proofs/WaysOut for each way out. Assumes nothing.
use mathlib.Core.Path.{◌≡◌, sym}
use native.Mathlib.Omega.{arith}
use lib.ListN.{get_or}
use Rattle.std.proofs.lemmas.Result.{err_from_is_err_and}
use Rattle.words.specs.Reading.{accepted}
use Rattle.stored.specs.Stored.{read_stored}
use Rattle.stored.proofs.StoredLists.{stored-count, stored-sized, stored-each}
use Rattle.lent.proofs.KnownSheet.{read as opened}
use Rattle.tidy.proofs.WaysOut.{tidy-refused, tidy-size, tidy-done}
use Rattle.tidy.proofs.tidy_bookings.Goals as goal
use Rattle.tidy.proofs.tidy_bookings.Goals.{In_ok-count}

stored : (c : In_ok-count) → let e = c.in_ok-e.e in
    read_stored e.cards e.shapes c.args.bookings.now ≡ accepted c.in_ok-count.count
stored c = sym c.in_ok-count.ensures

-- the count that is read is the list's first word
counted : (c : In_ok-count) → c.in_ok-count.count ≡ get_or c.args.bookings.now 0 0
counted c = stored-count _ _ _ _ (stored c)

pub returns-in_err-count : goal.returns-in_err-count
returns-in_err-count c =
    let p = err_from_is_err_and c.from_residual-in_err-count.result c.from_residual-in_err-count.ensures.1 in
    rw (p.1, p.2) (tidy-refused c.in_ok-e.ensures _ _ (sym c.in_err-count.ensures))

pub returns-then-out-from : goal.returns-then-out-from
returns-then-out-from c =
    let read = (goal.at.returns-then-out-from c).In_ok-count in
    tidy-size c.in_ok-e.ensures _ (stored read) _ (λ e. omega (arith, e, c.from.ensures, counted read))

pub tidy-requires : goal.tidy-requires
tidy-requires c =
    let read = (goal.at.tidy-requires c).In_ok-count in
    record {
      sized = stored-sized _ _ _ _ (stored read);
      counted = counted read;
      cards = λ i l. omega (
        arith,
        (stored-each _ _ _ _ (stored read) i l).0,
        (opened c.in_ok-e.ensures).links.cards-bound,
      );
      room = omega (arith, c.from.ensures);
    }

pub returns : goal.returns
returns c =
    let read = (goal.at.returns c).In_ok-count in
    tidy-done c.in_ok-e.ensures _ (stored read) _ _ _ (omega (arith, c.from.ensures, counted read))
    c.tidy.ensures

-- `searches::settle` leaves the smallest typing that holds the bookings, or 50, of each sheet whose pairs that fit it
-- was lent. Assumes nothing.
use mathlib.Core.Path.{sym, ◌∙◌}
use native.Mathlib.Omega.{arith}
use Rattle.bookings.proofs.Accepted.{bookings-sized, bookings-each}
use Rattle.lent.proofs.KnownSheet.{read, few-pairs}
use Rattle.pairs.proofs.Links.{links-ready}
use Rattle.searches.proofs.Settling.{closure-full, met-found, unmet-found}
use Rattle.closure.specs.Closing.{Closes}
use Rattle.searches.proofs.settle.Goals as goal
use Rattle.searches.proofs.settle.Goals.{After-close-found}

pub close-found-requires : goal.close-found-requires
close-found-requires c =
    let k = c.requires.some.tested.known in
    let bookings = c.args.listed.now.bookings.now in
    let e = c.args.listed.now.sheet.extent in
    rw (c.walk_of-walk.ensures, c.from-cards.ensures) (record {
      links = links-ready k c.requires.some.links;
      all-cards = (read k).links.cards;
      sized = bookings-sized e.cards e.shapes bookings _ c.requires.list;
      booked-in = bookings-each e.cards e.shapes bookings _ c.requires.list;
      full = c.requires.size;
      room-in = omega (arith, c.requires.size, few-pairs k);
    })

-- What the closure is, of the sheet.
closes : (a : After-close-found) → let listed = a.args.listed.now in
    Closes listed.sheet.script.now listed.sheet.names.now listed.sheet.extent.shapes listed.bookings.now a.args.desk
    listed.count a.close-found.new.grid a.close-found.result
closes a = rw a.walk_of-walk.ensures at a.close-found.ensures

pub first_unfit-requires : goal.first_unfit-requires
first_unfit-requires c =
    let t = c.requires.some.tested in
    let accepted = read t.known in
    let listed = c.args.listed.now in
    let size = closure-full t listed.bookings.now c.args.desk c.requires.list
    (closes (goal.at.first_unfit-requires c).After-close-found) in
    rw c.walk_of-walk.ensures (record {
      full = size ∙ sym t.fits.full;
      one-shape = accepted.shapes.shapes-low;
      few-shapes = accepted.shapes.shapes-high;
      few-places = omega (arith, size, few-pairs t.known);
    })

pub returns-in-None : goal.returns-in-None
returns-in-None c sheet t =
    met-found t c.args.listed.now.bookings.now c.args.desk c.requires.list
    (closes (goal.at.returns-in-None c).After-close-found)
    (rw c.walk_of-walk.ensures at c.first_unfit.ensures) c.in-None.is

pub returns-in-Some : goal.returns-in-Some
returns-in-Some c sheet t =
    unmet-found t c.args.listed.now.bookings.now c.args.desk c.requires.list
    (closes (goal.at.returns-in-Some c).After-close-found)
    (rw c.walk_of-walk.ensures at c.first_unfit.ensures) c.in-Some.is

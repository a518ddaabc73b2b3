-- `verdict::judge_tested` gives the verdict on a grid of zeros and ones, of each sheet whose pairs that fit it was
-- lent. Assumes nothing.
use mathlib.Core.Path.{◌∙◌, ap}
use Prim.Native.Nat.{ℕ, ◌*◌, ◌<◌}
use native.Mathlib.Omega.{arith}
use Rattle.words.proofs.Places.{card-in, shape-in}
use Rattle.bookings.proofs.Accepted.{bookings-count, bookings-sized, bookings-each}
use Rattle.lent.proofs.KnownSheet.{read}
use Rattle.pairs.proofs.Links.{links-ready}
use Rattle.verdict.proofs.Verdicts.{unmet-tested, unheld-tested, passes-tested}
use Rattle.verdict.proofs.judge_tested.Goals as goal

pub first_unmet-unmet-requires : goal.first_unmet-unmet-requires
first_unmet-unmet-requires c =
    let asked = c.requires in
    let k = asked.some.tested.known in
    rw c.walk_of-walk.ensures (record {
      links = links-ready k asked.some.links;
      full = asked.size ∙ ap (λ (n : ℕ). n * c.args.listed.now.sheet.extent.shapes) (read k).links.cards;
      tested = omega (arith, asked.some.tested.fits.full, asked.size);
    })

pub overflow_cast-card : goal.overflow_cast-card
overflow_cast-card c =
    let e = c.args.listed.now.sheet.extent in
    let accepted = read c.requires.some.tested.known in
    let inside : c.in-Some.place < e.cards * e.shapes = omega (arith, c.in-Some.ensures.0, c.requires.size) in
    let small = card-in e.shapes accepted.shapes.shapes-low e.cards c.in-Some.place inside in
    rw c.walk_of-walk.ensures (omega (arith, small, accepted.links.cards-bound))

pub overflow_cast-shape : goal.overflow_cast-shape
overflow_cast-shape c =
    let accepted = read c.requires.some.tested.known in
    let small = shape-in c.args.listed.now.sheet.extent.shapes accepted.shapes.shapes-low c.in-Some.place in
    rw c.walk_of-walk.ensures (omega (arith, small, accepted.shapes.shapes-high))

pub returns-in-Some : goal.returns-in-Some
returns-in-Some c sheet t =
    rw c.walk_of-walk.ensures (unmet-tested t c.args.listed.now.bookings.now c.args.desk c.args.grid.now
    c.requires.marks c.requires.size (rw c.walk_of-walk.ensures at c.in-Some.ensures))

pub first_unheld-requires : goal.first_unheld-requires
first_unheld-requires c =
    let asked = c.requires in
    let e = c.args.listed.now.sheet.extent in
    rw c.walk_of-walk.ensures (record {
      cards = e.cards;
      sized = bookings-sized e.cards e.shapes c.args.listed.now.bookings.now _ asked.list;
      few-shapes = (read asked.some.tested.known).shapes.shapes-high;
      full = asked.size;
      booked-in = bookings-each e.cards e.shapes c.args.listed.now.bookings.now _ asked.list;
    })

pub card_index-requires : goal.card_index-requires
card_index-requires c =
    let e = c.args.listed.now.sheet.extent in
    omega (
      arith,
      c.in-Some-first_unheld.ensures.0,
      (bookings-sized e.cards e.shapes c.args.listed.now.bookings.now _ c.requires.list).few,
    )

pub returns-in-Some-first_unheld : goal.returns-in-Some-first_unheld
returns-in-Some-first_unheld c sheet t =
    let listed = c.args.listed.now in
    let e = listed.sheet.extent in
    let counted = bookings-count e.cards e.shapes listed.bookings.now _ c.requires.list in
    rw c.card_index.ensures
    (unheld-tested t listed.bookings.now c.args.desk c.args.grid.now c.requires.marks c.requires.size
    (rw c.walk_of-walk.ensures at c.in_default.ensures) counted
    (rw c.walk_of-walk.ensures at c.in-Some-first_unheld.ensures))

pub returns-in-None : goal.returns-in-None
returns-in-None c sheet t =
    let listed = c.args.listed.now in
    let e = listed.sheet.extent in
    let counted = bookings-count e.cards e.shapes listed.bookings.now _ c.requires.list in
    passes-tested t listed.bookings.now c.args.desk c.args.grid.now c.requires.marks c.requires.size
    (rw c.walk_of-walk.ensures at c.in_default.ensures) counted
    (rw c.walk_of-walk.ensures at c.in-None.ensures)

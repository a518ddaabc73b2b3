-- `closure::close` leaves the closure of the bookings: the pairs that are marked, the flood from them, turned round.
-- Assumes nothing.
use mathlib.Core.Path.{◌≡◌, ap, ◌∙◌}
use Prim.Native.Nat.{ℕ, ◌*◌}
use native.Mathlib.Omega.{arith}
use lib.ListN.{length, get_or}
use Rattle.closure.proofs.Closures.{closes}
use Rattle.closure.proofs.close.Goals as goal
use Rattle.closure.proofs.close.Goals.{After-mark_bookings, Start}

grid-full : (s : Start) → length s.args.grid.now ≡ get_or s.args.walk.now.script.now 0 0 * s.args.walk.now.shapes
grid-full s = s.requires.full ∙ ap (λ (x : ℕ). x * s.args.walk.now.shapes) s.requires.all-cards

marked-full : (m : After-mark_bookings) → length m.mark_bookings.new.grid ≡ get_or m.args.walk.now.script.now 0 0 *
    m.args.walk.now.shapes
marked-full m =
    m.mark_bookings.ensures.1 ∙ m.fill.auto.grid ∙ grid-full (goal.at.After-mark_bookings m).Start

pub returns : goal.returns
returns c =
    closes c.requires.links.ready
    (λ i l. let (card, shape) = c.requires.booked-in i l in (omega (arith, card, c.requires.all-cards), shape))
    (marked-full (goal.at.returns c).After-mark_bookings) c.mark_bookings.ensures.0 c.flood-found.ensures
    c.flip.ensures

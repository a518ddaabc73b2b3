-- `bookings::card_at` reads the word that the definition names.
-- Assumes nothing.
use mathlib.Core.Path.{ap}
use Prim.Native.Nat.{ℕ}
use lib.ListN.{get_or}
use Rattle.bookings.specs.Bookings.{card_at}
use Rattle.bookings.proofs.card_at.Goals as goal

pub returns : goal.returns
unfolding card_at
returns c =
    ap (λ (i : ℕ). get_or c.args.bookings.now i 0) c.card_index.ensures

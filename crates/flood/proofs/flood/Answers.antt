-- `flood::flood` queues the pairs that are off and follows them; a sheet's pairs have room. Assumes nothing.
use mathlib.Core.Path.{ap}
use native.Mathlib.Omega.{arith}
use lib.ListN.{length}
use Rattle.typing.proofs.Boards.{pairs-bound}
use Rattle.flood.proofs.flood.Goals as goal

pub list_off-requires : goal.list_off-requires
list_off-requires c =
    record {
      few-places = omega (arith, c.requires.full, pairs-bound c.requires.links.ready);
      room = omega (arith, c.requires.room-in, ap length c.new-queue.ensures.places);
    }

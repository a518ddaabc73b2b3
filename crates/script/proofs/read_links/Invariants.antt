-- `script::read_links` tests the links one by one: before link i the reading from there on is the whole reading.
-- Assumes nothing.
use Prim.Native.Nat.{◌-◌}
use mathlib.Core.Path.{◌≡◌}
use Rattle.words.specs.Reading.{accepted}
use Rattle.script.specs.Script.{counts_of, read_links}
use Rattle.script.proofs.read_links.Given as goal

abbrev pub invariant-loop-i : goal.invariant-loop-i
invariant-loop-i l =
    read_links l.kinds l.cards l.script l.links 0 (accepted (counts_of l.cards l.links))
    ≡ read_links l.kinds l.cards l.script (l.links - l.i) l.i (accepted (counts_of l.cards l.links))

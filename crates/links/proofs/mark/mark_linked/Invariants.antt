-- `links::mark_linked` marks cards: before link i the marks are those of the links below i. Assumes nothing.
use lib.ListN.{length}
use Rattle.links.specs.Marks.{LinkedMarked}
use Rattle.links.proofs.mark.mark_linked.Given as goal

abbrev pub invariant-loop-i : goal.invariant-loop-i
invariant-loop-i l = LinkedMarked l.script l.i (length l.initial.linked) l.linked

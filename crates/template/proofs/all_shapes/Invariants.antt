-- `template::all_shapes` meets its contract. The invariant is `Filling` of proofs/Table.
-- Assumes nothing.
use mathlib.Core.Path.{◌≡◌}
use Rattle.template.proofs.Table.{Filling}
use Rattle.template.proofs.all_shapes.Given as goal

abbrev pub invariant-loop-t : goal.invariant-loop-t
invariant-loop-t l =
    (l.reader.words.now ≡ l.words) × Filling l.sizes l.words l.initial.names l.names l.reader.at l.t

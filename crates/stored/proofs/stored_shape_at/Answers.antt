-- `stored::stored_shape_at` reads the word that the definition names.
-- Assumes nothing.
use mathlib.Core.Path.{refl}
use Rattle.stored.specs.Stored.{stored_shape_at}
use Rattle.stored.proofs.stored_shape_at.Goals as goal

pub returns : goal.returns
unfolding stored_shape_at
returns c = refl

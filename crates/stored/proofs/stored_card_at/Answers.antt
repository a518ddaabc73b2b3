-- `stored::stored_card_at` reads the word that the definition names.
-- Assumes nothing.
use mathlib.Core.Path.{refl}
use Rattle.stored.specs.Stored.{stored_card_at}
use Rattle.stored.proofs.stored_card_at.Goals as goal

pub returns : goal.returns
unfolding stored_card_at
returns c = refl

-- Labels (docs/FORMAT.md, "Words and terms"; section 10 of the paper): a link's kind, and the end it is seen from.
--   Way         a link is seen from the card that it starts at, or from the one that it leads to
--   first_label  where the labels of a way start; label_of: the label of a kind seen one way
-- Assumes nothing.
use Rattle.std.specs.Prelude.{ℕ, ◌+◌}
use Rattle.words.specs.Limits.{max_kinds}

-- Outgoing: from the card that the link starts at. Incoming: from the card that it leads to.
pub data Way : Type 0 where
  outgoing : Way
  incoming : Way

-- The labels of the outgoing kinds come first, then those of the incoming ones.
abbrev pub first_label : Way → ℕ
first_label outgoing = 0
first_label incoming = max_kinds

-- The label of a kind seen one way.
abbrev pub label_of : Way → ℕ → ℕ
label_of way kind = first_label way + kind

-- How much room the greatest sheet takes; no part of a promise.
-- Assumes nothing.
use Rattle.std.specs.Prelude.{ℕ, ◌*◌}
use Rattle.words.specs.Limits.{max_labels, max_shapes, max_cards}

-- Entries of the table of names: a row of labels for each shape.
abbrev pub table_size : ℕ
table_size = max_shapes * max_labels

-- Bytes of the greatest grid: a byte for each card and shape.
abbrev pub max_grid : ℕ
max_grid = max_cards * max_shapes

-- The limits of the format (docs/FORMAT.md), each once. The code has the same numbers as constants (src/lib.rt).
-- Assumes nothing.
use Rattle.std.specs.Prelude.{ℕ, ◌*◌}

-- Kinds of links in a template.
abbrev pub max_kinds : ℕ
max_kinds = 64

-- Labels of a template: those of its kinds, each way.
abbrev pub max_labels : ℕ
max_labels = 2 * max_kinds

-- Shapes of a template.
abbrev pub max_shapes : ℕ
max_shapes = 32

-- Words of a template.
abbrev pub max_template : ℕ
max_template = 4096

-- How deep parts stand in each other.
abbrev pub max_depth : ℕ
max_depth = 12

-- Parts of a group, at least and at most.
abbrev pub min_group : ℕ
min_group = 2

abbrev pub max_group : ℕ
max_group = 16

-- A link's low and high, and a count of "Fit counts".
abbrev pub max_count : ℕ
max_count = 8192

-- The high of a link that has no limit.
abbrev pub no_limit : ℕ
no_limit = 65535

-- Cards and links of a script.
abbrev pub max_cards : ℕ
max_cards = 1024

abbrev pub max_links : ℕ
max_links = 8192

-- Bookings of a list.
abbrev pub max_bookings : ℕ
max_bookings = 1024

-- Bytes of the printer's input.
abbrev pub max_input : ℕ
max_input = 65536

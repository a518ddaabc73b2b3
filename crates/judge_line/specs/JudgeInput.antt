-- The grid judge's input (docs/FORMAT.md, "The grid judge"): template, script and bookings as in the printer's, then a
-- desk and a grid after its count of bytes.
-- max_judged              bytes of the input
-- grid_start, grid_size, grid_end   where the grid's bytes start, how many they are, and where they end
-- JudgeInput             the files, the desk and the grid
-- read_grid, read_judge_input   desk and grid after the files, and all of it, or the refusal 60
-- Assumes nothing.
use Rattle.std.specs.Prelude.{ℕ, ◌+◌, List, ltb, length, take, drop}
use Rattle.words.specs.Reading.{Reading, accepted, refuse, then}
use Rattle.input.specs.Input.{word_at, input_end, Input, read_front}

abbrev pub max_judged : ℕ
max_judged = 131072

-- The desk is the word where the bookings end, the count of the grid's bytes the next one; then come these bytes.
abbrev pub grid_start : List ℕ → ℕ
grid_start bytes = input_end bytes + 4

abbrev pub grid_size : List ℕ → ℕ
grid_size bytes = word_at bytes (input_end bytes + 2)

abbrev pub grid_end : List ℕ → ℕ
grid_end bytes = grid_start bytes + grid_size bytes

-- What the judge is asked.
pub record JudgeInput : Type 0 where
  pub files : Input
  pub desk : ℕ
  pub grid : List ℕ

-- The grid that stands in the bytes, for these files.
abbrev pub judge_input_of : List ℕ → Input → JudgeInput
judge_input_of bytes files = record {
  files = files;
  desk = word_at bytes (input_end bytes);
  grid = take (grid_size bytes) (drop (grid_start bytes) bytes);
}

-- 60: the input ends before the desk or the grid's count, or before the grid's last byte; it goes on past that.
unfoldable pub read_grid : List ℕ → Input → Reading JudgeInput
read_grid bytes files =
    refuse 60 0 (ltb (length bytes) (grid_start bytes))
    (refuse 60 0 (ltb (length bytes) (grid_end bytes))
    (refuse 60 0 (ltb (grid_end bytes) (length bytes))
    (accepted (judge_input_of bytes files))))

-- 60: the input passes 131,072 bytes, or ends before the bookings' last word; or that of the grid.
unfoldable pub read_judge_input : List ℕ → Reading JudgeInput
read_judge_input bytes = then (read_front max_judged bytes) (read_grid bytes)

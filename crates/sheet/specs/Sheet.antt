-- A sheet: what a template (schema) and a script (graph) that are read are to the typings (docs/FORMAT.md, "Typings").
-- Sheet        the parts of the shapes (types), the counts of cards (nodes) and links (edges), the words of both files
-- part_of       the part of a shape; opens_of: whether the shape is open
-- neighbours_of the neighbours that a shape looks at on a card
-- place, size  the place of a pair in a grid, and how many places there are
-- read_sheet    the sheet of a template and a script, or the first refusal
-- Assumes nothing.
use Rattle.std.specs.Prelude.{ℕ, ◌+◌, ◌*◌, Bool, List, get_or}
use Rattle.words.specs.Reading.{Reading, then, mapped}
use Rattle.bags.specs.Part.{Part}
use Rattle.bags.specs.Choice.{Neighbour}
use Rattle.bags.specs.Look.{looked_at}
use Rattle.template.specs.Template.{opens, Template, read_template}
use Rattle.script.specs.Link.{neighbours}
use Rattle.script.specs.Script.{ScriptCounts, read_script}

pub record Sheet : Type 0 where
  pub shapes : ℕ
  pub parts : List Part
  pub cards : ℕ
  pub links : ℕ
  pub template : List ℕ
  pub script : List ℕ

-- The part of shape t.
abbrev pub part_of : Sheet → ℕ → Part
part_of s t = get_or s.parts t Part.nothing

-- Shape t is open.
abbrev pub opens_of : Sheet → ℕ → Bool
opens_of s t = opens s.template t

-- The neighbours of card n that shape t looks at: those of the links, from it and to it, whose kind the shape names,
-- and of the other outgoing ones if it is not open.
abbrev pub neighbours_of : Sheet → ℕ → ℕ → List Neighbour
neighbours_of s n t = looked_at (opens_of s t) (part_of s t) (neighbours s.script n s.links)

-- Where a grid has the pair of card n and shape t.
abbrev pub place : Sheet → ℕ → ℕ → ℕ
place s n t = n * s.shapes + t

-- How many places a grid has.
abbrev pub size : Sheet → ℕ
size s = s.cards * s.shapes

-- The sheet of a template that is read from these words, with a script of these counts and words.
abbrev pub sheet_of : List ℕ → Template → ScriptCounts → List ℕ → Sheet
sheet_of words template counts script = record {
  shapes = template.shapes;
  parts = template.parts;
  cards = counts.cards;
  links = counts.links;
  template = words;
  script = script;
}

-- The template's refusals come first, then the script's.
unfoldable pub read_sheet : List ℕ → List ℕ → Reading Sheet
read_sheet template script =
    then (read_template template) (λ t. mapped (λ c. sheet_of template t c script) (read_script t.kinds script))

-- What is at a limit and is read: the accepting side of the boundaries whose other side is in the table of refusals.
-- AllRead   every template of a list is read, with the counts that it has
-- taken     templates at the limits
-- Assumes nothing.
use Rattle.std.specs.Prelude.{ℕ, ◌≡◌, List, [], ◌∷◌, get_or}
use Rattle.words.specs.Said.{values}
use Rattle.template.specs.Template.{template_says}

-- A template is read: its own counts of kinds and of shapes are said.
abbrev pub AllRead : List (List ℕ) → Type 0
AllRead [] = Unit {0}
AllRead (words ∷ rest) = (template_says words ≡ values (get_or words 0 0 ∷ get_or words 1 0 ∷ [])) × AllRead rest

-- Templates on the accepting side of each limit.
abbrev pub taken : List (List ℕ)
taken =
    -- nothing inside eleven optional parts, the last of twelve levels; and in an open shape
    (1 ∷ 1 ∷ 12 ∷ 3 ∷ 3 ∷ 3 ∷ 3 ∷ 3 ∷ 3 ∷ 3 ∷ 3 ∷ 3 ∷ 3 ∷ 3 ∷ 0 ∷ [])
    ∷ (1 ∷ 1 ∷ 13 ∷ 18 ∷ 3 ∷ 3 ∷ 3 ∷ 3 ∷ 3 ∷ 3 ∷ 3 ∷ 3 ∷ 3 ∷ 3 ∷ 3 ∷ 0 ∷ [])
    -- the last kind of 64, as an outgoing and as an incoming one
    ∷ (64 ∷ 1 ∷ 4 ∷ 319 ∷ 0 ∷ 0 ∷ 1 ∷ [])
    ∷ (64 ∷ 1 ∷ 4 ∷ 383 ∷ 0 ∷ 0 ∷ 1 ∷ [])
    -- kind 0 once each way
    ∷ (1 ∷ 1 ∷ 10 ∷ 17 ∷ 2 ∷ 256 ∷ 0 ∷ 0 ∷ 1 ∷ 320 ∷ 0 ∷ 0 ∷ 1 ∷ [])
    -- a low of 8,192 with no limit, and with a high of 8,192
    ∷ (1 ∷ 1 ∷ 4 ∷ 256 ∷ 0 ∷ 8192 ∷ 65535 ∷ [])
    ∷ (1 ∷ 1 ∷ 4 ∷ 256 ∷ 0 ∷ 8192 ∷ 8192 ∷ [])
    -- a group of two parts, and one of 16
    ∷ (1 ∷ 1 ∷ 4 ∷ 17 ∷ 2 ∷ 0 ∷ 0 ∷ [])
    ∷ (1 ∷ 1 ∷ 18 ∷ 16 ∷ 16 ∷ 0 ∷ 0 ∷ 0 ∷ 0 ∷ 0 ∷ 0 ∷ 0 ∷ 0 ∷ 0 ∷ 0 ∷ 0 ∷ 0 ∷ 0 ∷ 0 ∷ 0 ∷ 0 ∷ [])
    -- an open shape that asks for one link of kind 0
    ∷ (2 ∷ 1 ∷ 5 ∷ 18 ∷ 256 ∷ 0 ∷ 1 ∷ 1 ∷ [])
    -- two shapes, the first of which leads to the last
    ∷ (1 ∷ 2 ∷ 4 ∷ 256 ∷ 1 ∷ 1 ∷ 1 ∷ 1 ∷ 0 ∷ [])
    ∷ []

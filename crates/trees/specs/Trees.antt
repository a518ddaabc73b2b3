-- The part at a place of a template's words, whatever they are; no part of a promise. Where reading refuses nothing it
-- finds the same.
-- link_at             the link whose code is at a place
-- trees_at, tree_at    a run of so many parts, and a part: each leads to the other
-- Assumes nothing.
use Rattle.std.specs.Prelude.{cond, ℕ, zero, suc, ◌+◌, List, length, get_or, ltb}
use Rattle.bags.specs.Part.{Part, Parts, limit_of}
use Rattle.parts.specs.Reading.{Code, code_of}
use Rattle.parts.specs.Placed.{Placed, placed, onto}

-- The rest of a run stands after its first part.
abbrev pub before : Placed Part → (ℕ → Placed Parts) → Placed Parts
before first rest = onto (Parts.more first.value) (rest first.next)

-- So many parts one after the other, each found by `inner`.
unfoldable pub trees_at : (ℕ → Placed Part) → ℕ → ℕ → Placed Parts
trees_at inner zero at = placed Parts.none at
trees_at inner (suc n) at = before (inner at) (trees_at inner n)

-- The link of a label whose code is at a place: its shape, low and high stand after the code.
abbrev pub link_at : List ℕ → ℕ → ℕ → Placed Part
link_at words at label =
    placed
    (Part.link label (get_or words (at + 1) 0) (get_or words (at + 2) 0) (limit_of (get_or words (at + 3) 0)))
    (at + 4)

-- The part that a code starts; one that starts no part is taken for nothing.
abbrev pub tree_by : Code → (ℕ → Placed Part) → List ℕ → ℕ → Placed Part
tree_by Code.nothing inner words at = placed Part.nothing (at + 1)
tree_by Code.opening inner words at = placed Part.nothing (at + 1)
tree_by Code.unknown inner words at = placed Part.nothing (at + 1)
tree_by (Code.single f) inner words at = onto f (inner (at + 1))
tree_by (Code.group f) inner words at = onto f (trees_at inner (get_or words (at + 1) 0) (at + 2))
tree_by (Code.link first kind) inner words at = link_at words at (first + kind)

-- The part at a place, where `left` levels of parts are still allowed; nothing past the end or where none is left.
unfoldable pub tree_at : ℕ → List ℕ → ℕ → Placed Part
tree_at zero words at = placed Part.nothing at
tree_at (suc left) words at =
    cond (ltb at (length words)) (tree_by (code_of (get_or words at 0)) (tree_at left words) words at)
    (placed Part.nothing at)

-- What reading one part of a shape finds (docs/FORMAT.md, "Templates"). Refusals stand in the order of their tests, a
-- line each: the number, its place, and the test for it.
-- Code, code_of            what a code starts, decided by ranges
-- Found                   what was read, with the next place and the row; no_names: the row at the start
-- read_link, read_group     a link, and a group, at a place
-- read_run, read_part       a run of parts, and a part: each leads to the other
-- A row has, for each label, the shape that the shape being read has named for it so far plus one, or 0.
-- Assumes nothing.
use Rattle.std.specs.Prelude.{ℕ, zero, suc, ◌+◌, ◌-◌, List, Bool, true, false, not, cond, get_or, set, replicate, ltb}
use Rattle.std.specs.Prelude.{leb, eqb}
use Rattle.words.specs.Limits.{max_labels, max_count, no_limit, min_group, max_group}
use Rattle.words.specs.Reading.{Reading, accepted, turned_down, refuse, then, mapped}
use Rattle.bags.specs.Label.{outgoing, incoming, first_label}
use Rattle.bags.specs.Part.{Part, Parts, limit_of}
use Rattle.parts.specs.declared.Sizes.{Sizes}

-- What a code starts: nothing, one part that is wrapped, a group of parts, a link, an open shape, or nothing known.
pub data Code : Type 0 where
  nothing : Code
  single : (Part → Part) → Code
  group : (Parts → Part) → Code
  -- where the labels of its way start, and its kind
  link : ℕ → ℕ → Code
  opening : Code
  unknown : Code

-- 1: star, 2: plus, 3: optional.
abbrev pub wrapped : ℕ → Part → Part
wrapped n p = cond (eqb n 1) (Part.star p) (cond (eqb n 2) (Part.plus p) (Part.optional p))

-- 16: choice, 17: all.
abbrev pub gathered : ℕ → Parts → Part
gathered n ps = cond (eqb n 16) (Part.choice ps) (Part.all ps)

-- 0; 1 to 3; 16 and 17; 18; 256 to 319, outgoing links; 320 to 383, incoming ones; 4 to 15, 19 to 255 and 384 and above
-- are unknown.
abbrev pub code_of : ℕ → Code
code_of n =
    cond (eqb n 0) nothing
    (cond (ltb n 4) (single (wrapped n))
    (cond (ltb n 16) unknown
    (cond (ltb n 18) (group (gathered n))
    (cond (eqb n 18) opening
    (cond (ltb n 256) unknown
    (cond (ltb n 320) (link (first_label outgoing) (n - 256))
    (cond (ltb n 384) (link (first_label incoming) (n - 320)) unknown)))))))

-- What was read, the next place and the row.
pub data Found (A : Type 0) : Type 0 where
  found : A → ℕ → List ℕ → Found A

-- What was found becomes a part of something larger.
abbrev pub into : {A B : Type 0} → (A → B) → Found A → Found B
into f (found a next row) = found (f a) next row

-- The rest is read after what was found.
abbrev pub after : {A B : Type 0} → (A → ℕ → List ℕ → Reading B) → Found A → Reading B
after rest (found a next row) = rest a next row

-- No label has been named yet.
abbrev pub no_names : List ℕ
no_names = replicate max_labels 0

-- A link's low is at most 8,192; its high is from low to 8,192, or 65,535 for no limit.
abbrev pub limits_ok : ℕ → ℕ → Bool
limits_ok low high =
    cond (ltb max_count low) false (cond (eqb high no_limit) true (cond (ltb high low) false (leb high max_count)))

-- A link: the code, then its shape, low and high. 4: a word is missing. 7: the kind is not below the count of kinds.
-- 8: it stands in this shape already, the same way. 9: the shape is not below the count of shapes. 10: low or high.
unfoldable pub read_link : List ℕ → ℕ → Sizes → ℕ → List ℕ → ℕ → ℕ → Reading (Found Part)
read_link words end sizes at row first kind =
    refuse 4 end (ltb (end - at) 4)
    (refuse 7 at (leb sizes.kinds kind)
    (refuse 8 at (not (eqb (get_or row (first + kind) 0) 0))
    (refuse 9 (at + 1) (leb sizes.shapes (get_or words (at + 1) 0))
    (refuse 10 (at + 2) (not (limits_ok (get_or words (at + 2) 0) (get_or words (at + 3) 0)))
    (accepted
    (found
    (Part.link (first + kind) (get_or words (at + 1) 0) (get_or words (at + 2) 0) (limit_of (get_or words (at + 3) 0)))
    (at + 4)
    (set row (first + kind) (get_or words (at + 1) 0 + 1))))))))

-- So many parts one after the other, each read by `inner`.
unfoldable pub read_run : (ℕ → List ℕ → Reading (Found Part)) → ℕ → ℕ → List ℕ → Reading (Found Parts)
read_run inner zero at row = accepted (found Parts.none at row)
read_run inner (suc n) at row =
    then (inner at row) (after (λ p next left. mapped (into (Parts.more p)) (read_run inner n next left)))

-- A group: the code, then its count of parts, then those. 4: the count is missing. 11: it is under 2 or over 16.
abbrev pub read_group : (ℕ → List ℕ → Reading (Found Part)) → List ℕ → ℕ → ℕ → List ℕ → Reading (Found Parts)
read_group inner words end at row =
    refuse 4 end (ltb (end - at) 2)
    (refuse 11 (at + 1) (ltb (get_or words (at + 1) 0) min_group)
    (refuse 11 (at + 1) (ltb max_group (get_or words (at + 1) 0))
    (read_run inner (get_or words (at + 1) 0) (at + 2) row)))

-- The part that a code starts. 64: it is the code of an open shape, which starts no part. 5: the code is unknown.
abbrev pub read_code :
    Code → (ℕ → List ℕ → Reading (Found Part)) → List ℕ → ℕ → Sizes → ℕ → List ℕ → Reading (Found Part)
read_code nothing inner words end sizes at row = accepted (found Part.nothing (at + 1) row)
read_code (single f) inner words end sizes at row = mapped (into f) (inner (at + 1) row)
read_code (group f) inner words end sizes at row = mapped (into f) (read_group inner words end at row)
read_code (link first kind) inner words end sizes at row = read_link words end sizes at row first kind
read_code opening inner words end sizes at row = turned_down 64 at
read_code unknown inner words end sizes at row = turned_down 5 at

-- The part at a place below the shape's end, where `left` levels are still allowed. 4: the code is missing. 6: the part
-- stands too deep. Then what its code starts.
unfoldable pub read_part : ℕ → List ℕ → ℕ → Sizes → ℕ → List ℕ → Reading (Found Part)
read_part zero words end sizes at row =
    refuse 4 end (leb end at)
    (turned_down 6 at)
read_part (suc left) words end sizes at row =
    refuse 4 end (leb end at)
    (read_code (code_of (get_or words at 0)) (read_part left words end sizes) words end sizes at row)

-- Parts of a template's shapes (docs/FORMAT.md, "Templates"): the bag expressions of section 2.1 over (label, shape).
--   Limit, limit_of          the high of a link, and as a template's word has it
--   Part, Parts             a part; a run of parts, under choice and all
--   Names, names, Declares  a label stands in the part; the test of that; it stands there with a shape
--   Single                  no label stands twice
--   ShapesBelow, KindsBelow    every link's shape, kind is below a number
--   depth                   how deep the parts stand in each other
-- A label is a kind with a way (Label). Assumes nothing.
use Rattle.std.specs.Prelude.{ℕ, suc, ◌<◌, max, ◌≡◌, ◌⊎◌, Bool, true, false, ◌||◌, eqb}
use Rattle.words.specs.Limits.{no_limit}
use Rattle.bags.specs.Label.{Way, label_of}

-- The high of a link.
pub data Limit : Type 0 where
  at_most : ℕ → Limit
  no-limit : Limit

-- The limit n, but none where the test says so.
abbrev pub limit_unless : Bool → ℕ → Limit
limit_unless true n = no-limit
limit_unless false n = at_most n

-- The high of a link as a word: 65,535 stands for no limit.
abbrev pub limit_of : ℕ → Limit
limit_of high = limit_unless (eqb high no_limit) high

mutual
  -- A case for each code.
  pub data Part : Type 0 where
    nothing : Part
    star : Part → Part
    plus : Part → Part
    optional : Part → Part
    choice : Parts → Part
    all : Parts → Part
    -- label, shape, low, high
    link : ℕ → ℕ → ℕ → Limit → Part

  -- A run of parts.
  pub data Parts : Type 0 where
    none : Parts
    more : Part → Parts → Parts

-- The label k stands in a part, or in a part of a run.
abbrev mutual
  pub Names : Part → ℕ → Type 0
  Names nothing k = ⊥
  Names (star p) k = Names p k
  Names (plus p) k = Names p k
  Names (optional p) k = Names p k
  Names (choice ps) k = RunNames ps k
  Names (all ps) k = RunNames ps k
  Names (link label shape low high) k = k ≡ label

  pub RunNames : Parts → ℕ → Type 0
  RunNames none k = ⊥
  RunNames (more p ps) k = Names p k ⊎ RunNames ps k

-- Whether it does.
abbrev mutual
  pub names : Part → ℕ → Bool
  names nothing k = false
  names (star p) k = names p k
  names (plus p) k = names p k
  names (optional p) k = names p k
  names (choice ps) k = run_names ps k
  names (all ps) k = run_names ps k
  names (link label shape low high) k = eqb k label

  pub run_names : Parts → ℕ → Bool
  run_names none k = false
  run_names (more p ps) k = names p k || run_names ps k

-- A part, or a part of a run, has a link of the label k with the shape s.
abbrev mutual
  pub Declares : Part → ℕ → ℕ → Type 0
  Declares nothing k s = ⊥
  Declares (star p) k s = Declares p k s
  Declares (plus p) k s = Declares p k s
  Declares (optional p) k s = Declares p k s
  Declares (choice ps) k s = RunDeclares ps k s
  Declares (all ps) k s = RunDeclares ps k s
  Declares (link label shape low high) k s = (k ≡ label) × (s ≡ shape)

  pub RunDeclares : Parts → ℕ → ℕ → Type 0
  RunDeclares none k s = ⊥
  RunDeclares (more p ps) k s = Declares p k s ⊎ RunDeclares ps k s

-- No label stands twice, not even in two parts of a choice.
abbrev mutual
  pub Single : Part → Type 0
  Single nothing = Unit {0}
  Single (star p) = Single p
  Single (plus p) = Single p
  Single (optional p) = Single p
  Single (choice ps) = RunSingle ps
  Single (all ps) = RunSingle ps
  Single (link label shape low high) = Unit {0}

  pub RunSingle : Parts → Type 0
  RunSingle none = Unit {0}
  RunSingle (more p ps) = Single p × RunSingle ps × ((k : ℕ) → Names p k → RunNames ps k → ⊥)

-- Every link's shape is below S.
abbrev mutual
  pub ShapesBelow : ℕ → Part → Type 0
  ShapesBelow S nothing = Unit {0}
  ShapesBelow S (star p) = ShapesBelow S p
  ShapesBelow S (plus p) = ShapesBelow S p
  ShapesBelow S (optional p) = ShapesBelow S p
  ShapesBelow S (choice ps) = RunShapesBelow S ps
  ShapesBelow S (all ps) = RunShapesBelow S ps
  ShapesBelow S (link label shape low high) = shape < S

  pub RunShapesBelow : ℕ → Parts → Type 0
  RunShapesBelow S none = Unit {0}
  RunShapesBelow S (more p ps) = ShapesBelow S p × RunShapesBelow S ps

-- Every link's label is that of a kind below L, one way or the other.
abbrev mutual
  pub KindsBelow : ℕ → Part → Type 0
  KindsBelow L nothing = Unit {0}
  KindsBelow L (star p) = KindsBelow L p
  KindsBelow L (plus p) = KindsBelow L p
  KindsBelow L (optional p) = KindsBelow L p
  KindsBelow L (choice ps) = RunKindsBelow L ps
  KindsBelow L (all ps) = RunKindsBelow L ps
  KindsBelow L (link label shape low high) = (way : Way) × (kind : ℕ) × (kind < L) × (label ≡ label_of way kind)

  pub RunKindsBelow : ℕ → Parts → Type 0
  RunKindsBelow L none = Unit {0}
  RunKindsBelow L (more p ps) = KindsBelow L p × RunKindsBelow L ps

-- How deep the deepest part lies: the part itself is at depth 1, the parts in it one deeper.
abbrev mutual
  pub depth : Part → ℕ
  depth nothing = 1
  depth (star p) = suc (depth p)
  depth (plus p) = suc (depth p)
  depth (optional p) = suc (depth p)
  depth (choice ps) = suc (run_depth ps)
  depth (all ps) = suc (run_depth ps)
  depth (link label shape low high) = 1

  pub run_depth : Parts → ℕ
  run_depth none = 0
  run_depth (more p ps) = max (depth p) (run_depth ps)

-- The index of one half of a table of names, by which the search backwards goes, and what building it asks; no part of
-- a promise. A half has the entries of one way: its place p is that of shape p / max_kinds and kind p % max_kinds, and
-- `start` is where the labels of the way start.
-- half_entry    the entry at a place of a half
-- entry_key     by which a half's places are chained: a kind and the shape named for it; name_keys: how many such keys
-- Table        a table of names with a row for each shape
-- NamesAsked   what chaining the places of a half asks
-- Indexed      the chains of a half's places; IndexOf: an index has them; WayIndex: of the half of a way
-- IndexedBy    the indexes of a table
-- Assumes nothing.
use Rattle.std.specs.Prelude.{ℕ, ◌+◌, ◌-◌, ◌*◌, ◌/◌, ◌%◌, ◌≤◌, ◌<◌, ◌≡◌, List, cond, length, get_or, eqb}
use Rattle.std.specs.Prelude.{Option, MatchOption}
use Rattle.std.specs.Borrow.{Bor}
use Rattle.words.specs.Limits.{max_kinds, max_labels, max_shapes}
use Rattle.words.specs.Chain.{Chained, Blank}
use Rattle.bags.specs.Label.{Way, outgoing, incoming, first_label}
use Rattle.template.specs.Machine.{entry_at}
use Rattle.sheet.specs.Opened.{OnlyOutgoing}
use Rattle.strikes.specs.declared.index.NameIndex.{NameIndex}

abbrev pub half_entry : List ℕ → ℕ → ℕ → ℕ
half_entry names start p = entry_at names (p / max_kinds) (start + p % max_kinds)

-- A key for each kind and shape.
abbrev pub name_keys : ℕ
name_keys = max_kinds * max_shapes

-- Shapes × kind + shape for a place that names a shape; a key of its own, past these, for one that does not.
unfoldable pub entry_key : List ℕ → ℕ → ℕ → ℕ
entry_key names start p =
    cond (eqb (half_entry names start p) 0) (name_keys + p)
    (p % max_kinds * max_shapes + (half_entry names start p - 1))

-- A table of names with a row of labels for each shape. An entry is a shape plus one, or 0.
pub record Table (names : List ℕ) (shapes : ℕ) : Type 0 where
  pub few-shapes : shapes ≤ max_shapes
  pub rows : shapes * max_labels ≤ length names
  pub entries : (p : ℕ) → p < shapes * max_labels → get_or names p 0 ≤ max_shapes

-- What chaining the places of a half asks: the table, and arrays of zeros.
pub record NamesAsked (names : List ℕ) (start shapes : ℕ) (first next : List ℕ) : Type 0 where
  pub table : Table names shapes
  pub half : start ≤ max_kinds
  pub keys : length first ≡ name_keys
  pub blank : Blank first next (shapes * max_kinds)
  pub zeros : (i : ℕ) → i < length next → get_or next i 0 ≡ 0

-- The places of a half are chained by their keys.
pub record Indexed (names : List ℕ) (start shapes : ℕ) (first next : List ℕ) : Type 0 where
  pub keys : length first ≡ name_keys
  pub places : shapes * max_kinds ≤ length next
  pub chained : Chained (entry_key names start) first next (shapes * max_kinds)

-- An index has them so.
abbrev pub IndexOf : List ℕ → ℕ → NameIndex → Type 0
IndexOf names shapes index = Indexed names index.start shapes index.first.now index.next.now

-- The index is that of the half of a way.
pub record WayIndex (names : List ℕ) (shapes : ℕ) (way : Way) (index : NameIndex) : Type 0 where
  pub index-of : IndexOf names shapes index
  pub half : index.start ≡ first_label way

-- The indexes of a table: of the outgoing names, and of the incoming ones unless there are none.
pub record IndexedBy (names : List ℕ) (shapes : ℕ) (out : NameIndex) (back : Option (Bor NameIndex)) : Type 0 where
  pub outward : WayIndex names shapes outgoing out
  pub inward : MatchOption back (OnlyOutgoing names shapes max_kinds)
      (λ index. WayIndex names shapes incoming index.now)

-- Where the links of a flat part stand in a template's words; no part of a promise.
-- low_at, high_at  the low and the high of the link at a place
-- must             whether a label has a link that must be there: a place, and a low above 0
-- LinkPlaces       a list has the place of each label's link, or 0
-- Surveyed         a part is flat, its links are placed, and so many of them must be there
-- Standing         a part's words stand between two places, and the part obeys the format
-- SurveyAsked, SurveyedAs   what a survey asks, and what its answer says
-- code_size, entered, must_at   what a step of a survey computes: the words of a code, the places with the one of a
--                               link, and 1 for a link that must be there
-- LinkRoom, EnterAsked          what a step asks
-- Assumes nothing.
use Rattle.std.specs.Prelude.{ℕ, ◌+◌, ◌-◌, ◌≤◌, ◌<◌, ◌≡◌, Bool, ◌&&◌, cond, ◌↔◌, List, length, get_or, set, replicate}
use Rattle.std.specs.Prelude.{ltb, eqb, Option, Some, None}
use Rattle.words.specs.Limits.{max_labels, max_template}
use Rattle.bags.specs.Part.{Limit, Part, Names, Single, limit_of}
use Rattle.bags.specs.Flat.{Flat, Has}
use Rattle.board.specs.Grid.{bit, tally}
use Rattle.parts.specs.Writer.{write_part, WithinLimits}

-- The low and the high of the link whose code is at a place.
abbrev pub low_at : List ℕ → ℕ → ℕ
low_at words place = get_or words (place + 2) 0

abbrev pub high_at : List ℕ → ℕ → Limit
high_at words place = limit_of (get_or words (place + 3) 0)

-- The label has a link that must be there.
unfoldable pub must : List ℕ → List ℕ → ℕ → Bool
must words places k = ltb 0 (get_or places k 0) && ltb 0 (low_at words (get_or places k 0))

-- An entry for each label: the place of its link, whose words are there, or 0.
pub record LinkPlaces (words : List ℕ) (places : List ℕ) : Type 0 where
  pub full : length places ≡ max_labels
  pub inside : (k : ℕ) → 0 < get_or places k 0 → get_or places k 0 + 3 < length words

-- A flat part, the places of its links, and the number of those that must be there.
pub record Surveyed (words : List ℕ) (p : Part) (places : List ℕ) (needed : ℕ) : Type 0 where
  pub flat : Flat p
  pub placed : LinkPlaces words places
  pub links : (k low : ℕ) (high : Limit) → Has p k low high
      ↔ ((0 < get_or places k 0) × (low ≡ low_at words (get_or places k 0))
      × (high ≡ high_at words (get_or places k 0)))
  pub count : needed ≡ tally (must words places) max_labels

-- The words of a part, exactly, from a place on up to another. No label stands twice, each has an entry, and numbers
-- are within their limits.
pub record Standing (words : List ℕ) (at end : ℕ) (p : Part) : Type 0 where
  pub stands : (i : ℕ) → i < length (write_part p) → get_or words (at + i) 0 ≡ get_or (write_part p) i 0
  pub ends : end ≡ at + length (write_part p)
  pub once : Single p
  pub labels : (k : ℕ) → Names p k → k < max_labels
  pub limits : WithinLimits p

-- Some part stands there, not at the very start, and no label has a place yet.
pub record SurveyAsked (words : List ℕ) (core end : ℕ) (places : List ℕ) : Type 0 where
  pub part : Part
  pub standing : Standing words core end part
  pub start : 0 < core
  pub end-in : end ≤ length words
  pub short : length words ≤ max_template
  pub blank : places ≡ replicate max_labels 0

-- The part is flat, with so many links that must be there; nothing is said of any other.
abbrev pub SurveyedAs : List ℕ → Part → List ℕ → Option ℕ → Type 0
SurveyedAs words p places (Some needed) = Surveyed words p places needed
SurveyedAs words p places None = Unit {0}

-- ---- the steps of a survey

-- How many words a code takes with what belongs to it: nothing 1, all 2, a link 4; 0 for the codes of other parts.
unfoldable pub code_size : ℕ → ℕ
code_size code = cond (ltb code 256) (cond (eqb code 0) 1 (cond (eqb code 17) 2 0)) (cond (ltb code 384) 4 0)

-- The places, with the place of the link that stands there, if it is one.
unfoldable pub entered : List ℕ → ℕ → List ℕ → List ℕ
entered words at places = cond (ltb (get_or words at 0) 256) places (set places (get_or words at 0 - 256) at)

-- 1 where a link stands whose low is above 0, else 0.
unfoldable pub must_at : List ℕ → ℕ → ℕ
must_at words at = cond (ltb (get_or words at 0) 256) 0 (bit (ltb 0 (low_at words at)))

-- A code stands there, and where it is a link's, the link's words are there too.
pub record LinkRoom (words : List ℕ) (at : ℕ) : Type 0 where
  pub inside : at < length words
  pub room : 256 ≤ get_or words at 0 → at + 3 < length words

-- A link's code is that of a label, each label has an entry, and the place fits one.
pub record EnterAsked (words : List ℕ) (at : ℕ) (places : List ℕ) : Type 0 where
  pub inside : at < length words
  pub label : 256 ≤ get_or words at 0 → get_or words at 0 < 256 + max_labels
  pub full : length places ≡ max_labels
  pub short : length words ≤ max_template

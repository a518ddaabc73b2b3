-- How many links a card has of each kind, each way (docs/FORMAT.md, "Bags and counts").
-- way_count    the links of a kind that a card sees one way; way_counts: of each of so many kinds
-- card_counts  a card's counts: of the kinds of the links from it, then of the kinds of those to it
-- Assumes nothing.
use Rattle.std.specs.Prelude.{ℕ, zero, suc, ◌+◌, cond, List, [], ◌∷◌, ◌++◌, eqb}
use Rattle.bags.specs.Label.{Way, outgoing, incoming}
use Rattle.script.specs.Link.{kind_at, near_at}

-- Of the first m links, how many of a kind have the card for their near end, seen one way.
unfoldable pub way_count : Way → List ℕ → ℕ → ℕ → ℕ → ℕ
way_count way script card kind zero = 0
way_count way script card kind (suc i) =
    way_count way script card kind i
    + cond (eqb (near_at way script i) card) (cond (eqb kind (kind_at script i)) 1 0) 0

-- The same for each kind below a number, in order.
unfoldable pub way_counts : Way → List ℕ → ℕ → ℕ → ℕ → List ℕ
way_counts way script card links zero = []
way_counts way script card links (suc kind) =
    way_counts way script card links kind ++ (way_count way script card kind links ∷ [])

-- The counts that "Fit counts" takes, of a card's own links. A link from the card to itself counts in both halves.
abbrev pub card_counts : List ℕ → ℕ → ℕ → ℕ → List ℕ
card_counts script card links kinds =
    way_counts outgoing script card links kinds ++ way_counts incoming script card links kinds

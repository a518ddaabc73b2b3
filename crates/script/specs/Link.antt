-- The links of a script's words (docs/FORMAT.md, "Scripts"): three words each from place 2 on, from, kind and to.
-- from_index, kind_index, to_index   where the words of link i stand
-- from_at, kind_at, to_at   the words of link i
-- near_at, label_at, far_at   seen one way: the card that sees it, its label, and the card at its other end
-- greater, above         link i is above another, and above the link before it
-- card_words              the words of a card's links, in order
-- neighbours             the labels and far cards of the links that a card sees, from either end
-- below                  how many links start at a card below a number
-- linked                 whether a link touches a card
-- Assumes nothing.
use Rattle.std.specs.Prelude.{ℕ, zero, suc, ◌+◌, ◌*◌, List, [], ◌∷◌, ◌++◌, Bool, true, false, cond, ◌||◌, get_or, ltb}
use Rattle.std.specs.Prelude.{eqb}
use Rattle.bags.specs.Label.{Way, outgoing, incoming, label_of}
use Rattle.bags.specs.Choice.{Neighbour, to}

-- Where the words of link i stand.
abbrev pub from_index : ℕ → ℕ
from_index i = 2 + 3 * i

abbrev pub kind_index : ℕ → ℕ
kind_index i = 3 + 3 * i

abbrev pub to_index : ℕ → ℕ
to_index i = 4 + 3 * i

-- The card that link i starts at, its kind, and the card that it leads to.
unfoldable pub from_at : List ℕ → ℕ → ℕ
from_at script i = get_or script (from_index i) 0

unfoldable pub kind_at : List ℕ → ℕ → ℕ
kind_at script i = get_or script (kind_index i) 0

unfoldable pub to_at : List ℕ → ℕ → ℕ
to_at script i = get_or script (to_index i) 0

-- A link seen one way: the card that sees it, its label there, and the card at its other end.
abbrev pub near_at : Way → List ℕ → ℕ → ℕ
near_at outgoing script i = from_at script i
near_at incoming script i = to_at script i

abbrev pub label_at : Way → List ℕ → ℕ → ℕ
label_at way script i = label_of way (kind_at script i)

abbrev pub far_at : Way → List ℕ → ℕ → ℕ
far_at outgoing script i = to_at script i
far_at incoming script i = from_at script i

-- Link i is above link j: by its from, then its kind, then its to.
unfoldable pub greater : List ℕ → ℕ → ℕ → Bool
greater script i j =
    cond (ltb (from_at script j) (from_at script i)) true
    (cond (eqb (from_at script j) (from_at script i))
    (cond (ltb (kind_at script j) (kind_at script i)) true
    (cond (eqb (kind_at script j) (kind_at script i)) (ltb (to_at script j) (to_at script i)) false))
    false)

-- The first link is above none; any other is above the one before it.
unfoldable pub above : List ℕ → ℕ → Bool
above script zero = true
above script (suc i) = greater script (suc i) i

-- Of the first m links, the words of those that start at a card.
unfoldable pub card_words : List ℕ → ℕ → ℕ → List ℕ
card_words script card zero = []
card_words script card (suc i) =
    card_words script card i
    ++ cond (eqb (from_at script i) card) (from_at script i ∷ kind_at script i ∷ to_at script i ∷ []) []

-- What a card sees of link i one way: the label and the far end, if the card is the link's near end.
abbrev pub sight : Way → List ℕ → ℕ → ℕ → List Neighbour
sight way script card i =
    cond (eqb (near_at way script i) card) (to (label_at way script i) (far_at way script i) ∷ []) []

-- What a card sees of the first m links, each from both ends: a link from the card to itself is seen twice.
unfoldable pub neighbours : List ℕ → ℕ → ℕ → List Neighbour
neighbours script card zero = []
neighbours script card (suc i) =
    neighbours script card i ++ (sight outgoing script card i ++ sight incoming script card i)

-- Of the first m links, how many start at a card below c.
unfoldable pub below : List ℕ → ℕ → ℕ → ℕ
below script c zero = 0
below script c (suc i) = below script c i + cond (ltb (from_at script i) c) 1 0

-- Of the first m links, whether one starts at a card or leads to it. A card that no link touches is blank.
unfoldable pub linked : List ℕ → ℕ → ℕ → Bool
linked script card zero = false
linked script card (suc i) = linked script card i || eqb (from_at script i) card || eqb (to_at script i) card

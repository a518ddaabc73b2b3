-- What reading a script with a template finds (docs/FORMAT.md, "Scripts"; the operations "Read a script" and "Links of
-- a card"). Refusals stand in the order of their tests, a line each: the number, its place, and the test for it.
-- ScriptCounts, read_links, read_script   a script that is read: its counts of cards and of links
-- read_with                              a script read with a template
-- script_says                            what the operation "Read a script" says
-- card_links                             the words that the operation "Links of a card" gives
-- links_start                            the word of the script at which these start
-- Assumes nothing.
use Rattle.std.specs.Prelude.{ℕ, zero, suc, ◌+◌, ◌*◌, not, cond, List, [], ◌∷◌, length, get_or, ltb, leb, eqb}
use Rattle.words.specs.Said.{Said}
use Rattle.words.specs.Limits.{max_cards, max_links}
use Rattle.words.specs.Reading.{Reading, accepted, turned_down, refuse, then, said_of}
use Rattle.template.specs.Template.{read_template}
use Rattle.script.specs.Link.{from_index, kind_index, to_index, from_at, kind_at, to_at, above, card_words, below}

-- How many cards and links a script has.
pub record ScriptCounts : Type 0 where
  pub cards : ℕ
  pub links : ℕ

abbrev pub counts_of : ℕ → ℕ → ScriptCounts
counts_of cards links = record { cards = cards; links = links }

-- The n links from link i on, and then what follows where none is at fault. 23: the card that the link starts at is
-- not below the count of cards. 24: its kind is not below the count of kinds. 23: the card that it leads to is not
-- below the count of cards. 25: it is not above the link before it.
unfoldable pub read_links : ℕ → ℕ → List ℕ → ℕ → ℕ → Reading ScriptCounts → Reading ScriptCounts
read_links kinds cards script zero i done = done
read_links kinds cards script (suc n) i done =
    refuse 23 (from_index i) (leb cards (from_at script i))
    (refuse 24 (kind_index i) (leb kinds (kind_at script i))
    (refuse 23 (to_index i) (leb cards (to_at script i))
    (refuse 25 (from_index i) (not (above script i))
    (read_links kinds cards script n (suc i) done))))

-- A script under a template with so many kinds. 20: it has under 2 words. 21: over 1,024 cards. 22: over 8,192 links.
-- 20: it has other words than its count of links asks for. Then the links.
unfoldable pub read_script : ℕ → List ℕ → Reading ScriptCounts
read_script kinds script =
    refuse 20 0 (ltb (length script) 2)
    (refuse 21 0 (ltb max_cards (get_or script 0 0))
    (refuse 22 1 (ltb max_links (get_or script 1 0))
    (refuse 20 0 (not (eqb (length script) (2 + 3 * get_or script 1 0)))
    (read_links kinds (get_or script 0 0) script (get_or script 1 0) 0
    (accepted (counts_of (get_or script 0 0) (get_or script 1 0)))))))

-- A script is read with a template: the template's refusals come first.
abbrev pub read_with : List ℕ → List ℕ → Reading ScriptCounts
read_with template script = then (read_template template) (λ t. read_script t.kinds script)

-- What is said of a script that is read: its counts.
abbrev pub script_values : ScriptCounts → List ℕ
script_values counts = counts.cards ∷ counts.links ∷ []

unfoldable pub script_says : List ℕ → List ℕ → Said
script_says template script = said_of script_values (read_with template script)

-- The words of a card's links: none if template or script is refused, or the card is not below the count of cards.
abbrev links_of : Reading ScriptCounts → List ℕ → ℕ → List ℕ
links_of (accepted counts) script card = cond (ltb card counts.cards) (card_words script card counts.links) []
links_of (turned_down number place) script card = []

unfoldable pub card_links : List ℕ → List ℕ → ℕ → List ℕ
card_links template script card = links_of (read_with template script) script card

-- The word of the script at which that part starts: 0 where template or script is refused, or the card is not below the
-- count of cards; else the first word after those of the links that start at a card below.
abbrev start_of : Reading ScriptCounts → List ℕ → ℕ → ℕ
start_of (accepted counts) script card =
    cond (ltb card counts.cards) (from_index (below script card counts.links)) 0
start_of (turned_down number place) script card = 0

abbrev pub links_start : List ℕ → List ℕ → ℕ → ℕ
links_start template script card = start_of (read_with template script) script card

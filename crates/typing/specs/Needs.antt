-- Which pairs a pair needs, by the script's words and the table of names, and their board; no part of a promise.
-- Needs        the pair at place p needs the pair at place q: p's card sees a link to q's card, one way, and p's shape
--              names q's shape for the link's label
-- met_test      the test of Proposition 8.1: the counts fit, and each link leads to a pair that is there
-- board_of      the board of a script, a table of names, and a grid that is 1 where the counts fit
-- has_named, end_test, link_test   a set has the pair that an entry asks for; that a link leads to, one way and both
-- Ready        a script and a table of names that fit together
-- Assumes nothing.
use Rattle.std.specs.Prelude.{ℕ, zero, suc, ◌+◌, ◌*◌, ◌/◌, ◌%◌, ◌≤◌, ◌<◌, ◌≡◌, List, Bool, true, ◌&&◌, cond, length}
use Rattle.std.specs.Prelude.{get_or, eqb}
use Rattle.words.specs.Limits.{max_labels, max_shapes, max_cards, max_links}
use Rattle.bags.specs.Label.{Way, outgoing, incoming}
use Rattle.board.specs.Grid.{on}
use Rattle.board.specs.Machine.{all}
use Rattle.board.specs.Board.{Board}
use Rattle.template.specs.Machine.{entry_at}
use Rattle.script.specs.Link.{near_at, label_at, far_at}

-- A link that p's card sees one way leads to q's card, and p's shape names q's shape for the link's label.
pub record Needs (script names : List ℕ) (shapes p q : ℕ) : Type 0 where
  pub way : Way
  pub link : ℕ
  pub below : link < get_or script 1 0
  pub starts : near_at way script link ≡ p / shapes
  pub shape : ℕ
  pub names-it : entry_at names (p % shapes) (label_at way script link) ≡ suc shape
  pub leads : q ≡ far_at way script link * shapes + shape

-- The set has the far pair that an entry asks for; no entry asks for none.
abbrev pub has_named : (ℕ → Bool) → ℕ → ℕ → Bool
has_named X base zero = true
has_named X base (suc u) = X (base + u)

-- Seen one way, link i is not one of p's card, or the set has the pair that it leads to.
unfoldable pub end_test : Way → List ℕ → List ℕ → ℕ → (ℕ → Bool) → ℕ → ℕ → Bool
end_test way script names shapes X p i =
    cond (eqb (near_at way script i) (p / shapes))
    (has_named X (far_at way script i * shapes) (entry_at names (p % shapes) (label_at way script i)))
    true

-- So it is seen either way.
unfoldable pub link_test : List ℕ → List ℕ → ℕ → (ℕ → Bool) → ℕ → ℕ → Bool
link_test script names shapes X p i =
    end_test outgoing script names shapes X p i && end_test incoming script names shapes X p i

-- The counts of the pair at p fit, and the set has the pair that each link of its card leads to.
unfoldable pub met_test : List ℕ → List ℕ → ℕ → List ℕ → (ℕ → Bool) → ℕ → Bool
met_test script names shapes fits X p = on fits p && all (link_test script names shapes X p) (get_or script 1 0)

-- The pairs of the script's cards and so many shapes, which of them fit, and which pairs they need.
abbrev pub board_of : List ℕ → List ℕ → ℕ → List ℕ → Board
board_of script names shapes fits = record {
  size = get_or script 0 0 * shapes;
  ok = on fits;
  Dep = Needs script names shapes;
  met = met_test script names shapes fits;
}

-- A script and a table of names that fit together.
pub record Ready (script names : List ℕ) (shapes : ℕ) : Type 0 where
  pub one-shape : 0 < shapes
  pub few-shapes : shapes ≤ max_shapes
  pub few-cards : get_or script 0 0 ≤ max_cards
  pub few-links : get_or script 1 0 ≤ max_links
  pub words : 2 + 3 * get_or script 1 0 ≤ length script
  pub near-in : (way : Way) (i : ℕ) → i < get_or script 1 0 → near_at way script i < get_or script 0 0
  pub label-in : (way : Way) (i : ℕ) → i < get_or script 1 0 → label_at way script i < max_labels
  pub far-in : (way : Way) (i : ℕ) → i < get_or script 1 0 → far_at way script i < get_or script 0 0
  pub table : shapes * max_labels ≤ length names
  pub entry_in : (t k : ℕ) → t < shapes → k < max_labels → entry_at names t k ≤ shapes

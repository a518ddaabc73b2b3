-- What the parts of the reading ask and leave behind; no part of a promise.
-- after_link   what the code's test of one link makes of the reading
-- LinkIn      a link stands in the script; LinksIn: so do the links between two numbers
-- Ascending   the first m links stand in the script, each above the one before it
-- PartAsked   what finding a card's part asks; CardPart: what is found
-- Assumes nothing.
use Rattle.std.specs.Prelude.{ℕ, ◌+◌, ◌*◌, ◌≤◌, ◌<◌, true, ◌≡◌, List, length, Result, Ok, Err}
use Rattle.std.specs.Borrow.{Bor}
use Rattle.words.specs.Limits.{max_links}
use Rattle.words.specs.Reading.{Reading, turned_down}
use Rattle.script.specs.Link.{from_index, above, card_words, below}
use Rattle.words.specs.Refused.{number}
use Rattle.words.specs.declared.refusal.Refusal.{Refusal}
use Rattle.script.specs.Script.{ScriptCounts}

-- Where the code's test of a link passes, what follows; else the refusal that it found.
abbrev pub after_link : Result (Unit {0}) Refusal → Reading ScriptCounts → Reading ScriptCounts
after_link (Ok passed) rest = rest
after_link (Err r) rest = turned_down (number r.0) r.1

-- The words of link i are in the script.
pub record LinkIn (script : List ℕ) (i : ℕ) : Type 0 where
  pub few : i < max_links
  pub inside : 5 + 3 * i ≤ length script

-- The links from link lo on and below link hi are in the script.
pub record LinksIn (script : List ℕ) (lo hi : ℕ) : Type 0 where
  pub order : lo ≤ hi
  pub few : hi ≤ max_links
  pub end : 2 + 3 * hi ≤ length script

-- The first m links, at most 8,192, stand in the script and rise strictly.
pub record Ascending (script : List ℕ) (m : ℕ) : Type 0 where
  pub few : m ≤ max_links
  pub size : 2 + 3 * m ≤ length script
  pub rising : (i : ℕ) → i < m → above script i ≡ true

-- The links rise, and the card is a word.
pub record PartAsked (script : List ℕ) (links card : ℕ) : Type 0 where
  pub ascending : Ascending script links
  pub small : card < 65536

-- The part of a lent script that a card's links are: its words, its block of memory, and where in the block it starts.
pub record CardPart (script : Bor (List ℕ)) (links card : ℕ) (part : Bor (List ℕ)) : Type 0 where
  pub list : part.now ≡ card_words script.now card links
  pub lent : part.ref_ptr.0 ≡ script.ref_ptr.0
  pub place : part.ref_ptr.1 ≡ from_index (below script.now card links) * 2 + script.ref_ptr.1

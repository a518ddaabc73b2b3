-- What is said of a script that is read, and the links of a card, as the first demand has them.
--   script-said            its counts of cards and of links
--   past-card, own-links   there are none of a card that there is not; else they are the words of its links
--   side_by_side           which are a part of the script
-- Assumes nothing.
use Prim.Native.Nat.{ℕ, zero, suc, ◌+◌, ◌*◌, ◌-◌, ◌≤◌, ◌<◌}
use mathlib.Core.Path.{◌≡◌, refl, ap, subst}
use mathlib.Core.List.{List, [], ◌∷◌}
use lib.ListN.{length, take, drop}
use borrow.Author.Tests.{lt-ltb, le-ltb}
use Rattle.words.specs.Said.{values}
use Rattle.words.specs.Reading.{said_of}
use Rattle.script.specs.Link.{from_index, card_words, below}
use Rattle.script.specs.Script.{script_values, script_says, card_links, links_start}
use Rattle.script.specs.Steps.{Ascending}
use Rattle.script.proofs.Cards.{part-words}
use Rattle.script.proofs.Reading.{ScriptAccepted}
use Rattle.sheet.specs.Sheet.{Sheet}
use Rattle.demands.specs.Formed.{Formed}
use Rattle.demands.proofs.Formed.{formed-with, formed-read}

-- A front of a list is as long as itself.
take_own : (k : ℕ) (l : List ℕ) → take k l ≡ take (length (take k l)) l
take_own zero l = refl
take_own (suc k) [] = refl
take_own (suc k) (x ∷ l) = ap (λ (r : List ℕ). x ∷ r) (take_own k l)

-- The words of a card's links are the front of the script from where they start.
part-itself : (script : List ℕ) (m : ℕ) → Ascending script m → (card : ℕ) → let words = card_words script card m in
    words ≡ take (length words) (drop (from_index (below script card m)) script)
part-itself script m a card =
    let lo = below script card m in
    let hi = below script (card + 1) m in
    let part = part-words script m a card lo hi refl refl in
    subst (λ (words : List ℕ). words ≡ take (length words) (drop (from_index lo) script)) part
    (take_own (2 + 3 * hi - (2 + 3 * lo)) (drop (from_index lo) script))

-- What is said of a script that is read with its template.
pub script-said : (template script : List ℕ) (s : Sheet) → Formed template script s
    → script_says template script ≡ values (s.cards ∷ s.links ∷ [])
unfolding script_says
script-said template script s f = ap (said_of script_values) (formed-with template script s f)

-- The links of a card of a well-formed sheet, and where they start.
module _ (template script : List ℕ) (s : Sheet) (f : Formed template script s) (card : ℕ) where
  pub past-card : s.cards ≤ card → card_links template script card ≡ []
  unfolding card_links
  past-card h = rw (formed-with template script s f, le-ltb card s.cards h) refl

  pub own-links : card < s.cards → card_links template script card ≡ card_words script card s.links
  unfolding card_links
  own-links h = rw (formed-with template script s f, lt-ltb card s.cards h) refl

  own-start : card < s.cards → links_start template script card ≡ from_index (below script card s.links)
  own-start h = rw (formed-with template script s f, lt-ltb card s.cards h) refl

  -- they stand side by side in the script
  pub side_by_side : card < s.cards → let links = card_links template script card in
      links ≡ take (length links) (drop (links_start template script card) script)
  side_by_side h =
      let read = subst (λ (words : List ℕ). ScriptAccepted f.kinds words s.cards s.links) f.script-words
      (formed-read template script s f).links in
      rw (own-links h, own-start h) (part-itself script s.links read.ascending card)

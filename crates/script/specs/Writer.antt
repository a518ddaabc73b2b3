-- Writing a script: the words of its links, and which scripts are well-formed (docs/FORMAT.md, "Scripts"). Used only by
-- theorems; no part of a promise of a call.
-- Link, link_at    a link, and the link at a place of a list
-- write_script     the words of a script
-- word_links       the links that words have
-- Before          a link is lower than another: by from, then kind, then to
-- WellFormed      what a script must be
-- Assumes nothing.
use Rattle.std.specs.Prelude.{ℕ, zero, suc, ◌≤◌, ◌<◌, ◌≡◌, ◌⊎◌, List, [], ◌∷◌, length, get_or}
use Rattle.words.specs.Limits.{max_cards, max_links}
use Rattle.script.specs.Link.{from_at, kind_at, to_at}

-- The card that a link starts at, its kind, and the card that it leads to.
pub record Link : Type 0 where
  pub from : ℕ
  pub kind : ℕ
  pub to : ℕ

-- The link at a place of a list; past its end one of zeros.
abbrev pub link_at : List Link → ℕ → Link
link_at links i = get_or links i (record { from = 0; kind = 0; to = 0 })

-- Three words for each link.
abbrev pub write_links : List Link → List ℕ
write_links [] = []
write_links (l ∷ ls) = l.from ∷ l.kind ∷ l.to ∷ write_links ls

-- The counts of cards and of links, and then the links.
abbrev pub write_script : ℕ → List Link → List ℕ
write_script cards links = cards ∷ length links ∷ write_links links

-- The n links from link i on that words have.
abbrev pub word_links : List ℕ → ℕ → ℕ → List Link
word_links script zero i = []
word_links script (suc n) i =
    record { from = from_at script i; kind = kind_at script i; to = to_at script i } ∷ word_links script n (suc i)

-- A link is lower than another: it starts at a lower card, or there and is of a lower kind, or leads to a lower card.
abbrev pub Before : Link → Link → Type 0
Before a b =
    (a.from < b.from)
    ⊎ ((a.from ≡ b.from) × ((a.kind < b.kind) ⊎ ((a.kind ≡ b.kind) × (a.to < b.to))))

-- A link's cards and kind are the script's and the template's.
pub record LinkFormed (kinds cards : ℕ) (link : Link) : Type 0 where
  pub from-card : link.from < cards
  pub of-kind : link.kind < kinds
  pub to-card : link.to < cards

-- What a script with these links must be, for a template of so many kinds.
pub record WellFormed (kinds cards : ℕ) (links : List Link) : Type 0 where
  pub cards-high : cards ≤ max_cards
  pub links-high : length links ≤ max_links
  pub formed : (i : ℕ) → i < length links → LinkFormed kinds cards (link_at links i)
  -- each link is above the one before it
  pub rising : (i : ℕ) → suc i < length links → Before (link_at links i) (link_at links (suc i))

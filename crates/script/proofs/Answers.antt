-- No contract leaves a choice, and what an answer tells of the reading.
-- sizes-unique           the counts tell the sizes
-- read-script-unique     reading a script has one answer
-- LinksPart              what the contract says of the part that "Links of a card" lends
-- links-of-card-unique   of such parts there is one: the same words, at the same place of memory
-- script-read            the script's reading, from the counts that it says
-- Assumes nothing.
use Prim.Native.Nat.{ℕ, ◌+◌, ◌*◌}
use mathlib.Core.Path.{◌≡◌, sym, ap₂, ◌∙◌}
use mathlib.Core.List.{List, [], ◌∷◌}
use denote.Ref.{Bor}
use Rattle.script.specs.declared.ScriptSizes.{ScriptSizes}
use Rattle.words.specs.declared.refusal.Refusal.{Refusal}
use Rattle.words.proofs.Refused.{said-by-unique}
use Rattle.words.proofs.Said.{values-refusal}
use Rattle.std.specs.Prelude.{Result}
use Rattle.script.specs.Answer.{script_said}
use Rattle.script.specs.Script.{ScriptCounts, counts_of, script_values, script_says, card_links, links_start}
use Rattle.words.specs.Said.{values}
use Rattle.words.specs.Reading.{Reading, accepted, said_of}
use Rattle.words.proofs.Readings.{said-accepted}

-- The counts tell the sizes.
sizes-unique : (a b : ScriptSizes) → values (a.cards ∷ a.links ∷ []) ≡ values (b.cards ∷ b.links ∷ []) → a ≡ b
sizes-unique a b e =
    let p : a.cards ≡ b.cards = cc in
    let q : a.links ≡ b.links = cc in
    ap₂ (λ (n m : ℕ). record { cards = n; links = m }) p q

pub read-script-unique : (template script : List ℕ) (a b : Result ScriptSizes Refusal)
    → script_said a ≡ script_says template script → script_said b ≡ script_says template script → a ≡ b
read-script-unique template script a b p q =
    said-by-unique _ sizes-unique (λ s r e. values-refusal e) a b (p ∙ sym q)

-- A part of a lent script: its words, its block of memory, and where in the block it starts.
pub record LinksPart (template : List ℕ) (script : Bor (List ℕ)) (card : ℕ) (part : Bor (List ℕ)) : Type 0 where
  pub list : part.now ≡ card_links template script.now card
  pub lent : part.ref_ptr.0 ≡ script.ref_ptr.0
  pub place : part.ref_ptr.1 ≡ links_start template script.now card * 2 + script.ref_ptr.1

pub links-of-card-unique : (template : List ℕ) (script : Bor (List ℕ)) (card : ℕ) (a b : Bor (List ℕ))
    → LinksPart template script card a → LinksPart template script card b
    → (a.now ≡ b.now) × (a.ref_ptr.0 ≡ b.ref_ptr.0) × (a.ref_ptr.1 ≡ b.ref_ptr.1)
links-of-card-unique template script card a b x y =
    (x.list ∙ sym y.list, x.lent ∙ sym y.lent, x.place ∙ sym y.place)

-- The script's reading, from what it says.
pub script-read : (r : Reading ScriptCounts) (cards links : ℕ) → values (cards ∷ links ∷ []) ≡ said_of script_values r
    → r ≡ accepted (counts_of cards links)
script-read r cards links e =
    let (counts, read, same) = said-accepted script_values r (cards ∷ links ∷ []) e in
    let p : counts.cards ≡ cards = cc in
    let q : counts.links ≡ links = cc in
    read ∙ ap₂ (λ (x y : ℕ). accepted (counts_of x y)) p q

-- A script read with a template, and the links of a card found with both.
-- script-counts, script-refused   what the script's reading says, from what the template's says
-- BothRead, both_read             template and script are both read
-- card-links-none, card-links-outside, card-links-part   a card's links: none, or its words
-- links-start-none, links-start-outside, links-start-part   where they start
-- Assumes nothing.
use Prim.Native.Nat.{ℕ, ◌≤◌, ◌<◌}
use mathlib.Core.Path.{◌≡◌, refl, sym, ap, ◌∙◌}
use mathlib.Core.List.{List, [], ◌∷◌}
use borrow.Author.Tests.{lt-ltb, le-ltb}
use Rattle.words.specs.Said.{values, refusal}
use Rattle.words.specs.Reading.{Reading, accepted, then, said_of}
use Rattle.words.proofs.Readings.{then-accepted, said-turned}
use Rattle.template.specs.Template.{Template, read_template, template_says}
use Rattle.template.proofs.Answers.{template-read, template-turned}
use Rattle.script.specs.Link.{from_index, card_words, below}
use Rattle.script.specs.Script.{counts_of, read_script, script_values, read_with, script_says, card_links, links_start}
use Rattle.script.proofs.Reading.{ScriptAccepted, script-accepted}
use Rattle.script.proofs.Answers.{script-read}

pub script-counts : (template script : List ℕ) (kinds shapes : ℕ)
    → values (kinds ∷ shapes ∷ []) ≡ template_says template
    → said_of script_values (read_script kinds script) ≡ script_says template script
unfolding script_says
script-counts template script kinds shapes e =
    let (t, read, same-kinds, same-shapes) = template-read template kinds shapes e in
    ap (λ (n : ℕ). said_of script_values (read_script n script)) same-kinds
    ∙ sym (ap (λ (r : Reading Template). said_of script_values (then r (λ t. read_script t.kinds script))) read)

pub script-refused : (template script : List ℕ) (number place : ℕ)
    → refusal number (place ∷ []) ≡ template_says template
    → refusal number (place ∷ []) ≡ script_says template script
unfolding script_says
script-refused template script number place e = rw (template-turned template number place e) refl

-- What template and script have where both are read.
pub record BothRead (template script : List ℕ) (N M : ℕ) : Type 0 where
  pub kinds : ℕ
  pub reading : read_with template script ≡ accepted (counts_of N M)
  pub read : ScriptAccepted kinds script N M

pub both_read : (template script : List ℕ) (N M : ℕ) → values (N ∷ M ∷ []) ≡ script_says template script
    → BothRead template script N M
unfolding script_says
both_read template script N M e =
    let reading = script-read (read_with template script) N M e in
    let (t, first, second) = then-accepted (read_template template) (λ t. read_script t.kinds script) _ reading in
    record { kinds = t.kinds; reading = reading; read = script-accepted t.kinds script (counts_of N M) second }

pub card-links-none : (template script : List ℕ) (card number place : ℕ)
    → refusal number (place ∷ []) ≡ script_says template script → [] ≡ card_links template script card
unfolding script_says card_links
card-links-none template script card number place e =
    rw (said-turned script_values (read_with template script) number place e) refl

pub links-start-none : (template script : List ℕ) (card number place : ℕ)
    → refusal number (place ∷ []) ≡ script_says template script → 0 ≡ links_start template script card
unfolding script_says
links-start-none template script card number place e =
    rw (said-turned script_values (read_with template script) number place e) refl

module _ (template script : List ℕ) (N M card : ℕ) (both : BothRead template script N M) where
  pub card-links-outside : N ≤ card → [] ≡ card_links template script card
  unfolding card_links
  card-links-outside h = rw (both.reading, le-ltb card N h) refl

  pub card-links-part : card < N → card_words script card M ≡ card_links template script card
  unfolding card_links
  card-links-part h = rw (both.reading, lt-ltb card N h) refl

  pub links-start-outside : N ≤ card → 0 ≡ links_start template script card
  links-start-outside h = rw (both.reading, le-ltb card N h) refl

  pub links-start-part : card < N → from_index (below script card M) ≡ links_start template script card
  links-start-part h = rw (both.reading, lt-ltb card N h) refl

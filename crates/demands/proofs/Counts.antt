-- Counts fit as the second demand says: any counts that are asked of, and those of a card's own links.
--   counts-fit-exactly   "Fit counts" says 1 exactly where counts belong to the bag language
--   card-fits-exactly    the counts of a card's own links are those of the neighbours that a shape looks at
-- Assumes nothing.
use Prim.Native.Nat.{ℕ, ◌*◌, ◌≤◌, ◌<◌}
use mathlib.Core.Path.{◌≡◌, sym, ap, ◌∙◌, subst, fun_ext}
use mathlib.Core.Logic.{⊎_elim, ◌↔◌}
use mathlib.Core.List.{List, [], ◌∷◌}
use native.Mathlib.Omega.{arith}
use lib.ListN.{length, get_or}
use Rattle.words.specs.Limits.{max_kinds, max_count}
use Rattle.words.specs.Said.{Said, values}
use Rattle.words.specs.Reading.{accepted}
use Rattle.words.proofs.Bools.{le-or-lt}
use Rattle.bags.specs.Part.{Part}
use Rattle.bags.specs.Bag.{Fits}
use Rattle.bags.specs.Look.{seen, listed}
use Rattle.bags.specs.Proposition.{label_count}
use Rattle.bags.proofs.Naming.{names-kind}
use Rattle.bags.proofs.Looking.{looks-cases, seen_alike, looked-count, listed-none}
use Rattle.template.specs.Template.{opens, Template, read_template}
use Rattle.script.specs.Link.{neighbours}
use Rattle.links.specs.Counts.{card_counts}
use Rattle.links.proofs.Counts.{card-counts-length}
use Rattle.sheet.specs.Sheet.{Sheet, part_of, opens_of, neighbours_of}
use Rattle.sheet.proofs.Accepted.{SheetAccepted}
use Rattle.counts.specs.Fit.{FitSays}
use Rattle.counts.proofs.Counts.{over_none}
use Rattle.counts.proofs.OwnCounts.{own-outgoing, own-named, own-low}
use Rattle.counts.proofs.Fitting.{question, fit-asked, yes-exact, no-exact}
use Rattle.typing.proofs.Instance.{counts_of, none-past}
use Rattle.demands.specs.Formed.{Formed}
use Rattle.demands.proofs.Formed.{formed-template, formed-read}

-- ---- any counts
module _ (template : List ℕ) (t : Template) (read : read_template template ≡ accepted t)
    (shape : ℕ) (inside : shape < t.shapes)
    (counts : List ℕ) (whole : length counts ≡ 2 * t.kinds) (low : (k : ℕ) → get_or counts k 0 ≤ max_count) where
  -- the shape's part has a bag with these counts
  abbrev Fit : Type 0
  Fit =
      let part = get_or t.parts shape Part.nothing in
      Fits t.shapes part (seen (opens template shape) part (listed t.kinds counts))

  pub counts-fit-exactly : (said : Said) → FitSays template shape counts said
      → ((said ≡ values (1 ∷ [])) ↔ Fit) × ((said ≡ values (0 ∷ [])) ↔ (Fit → ⊥))
  counts-fit-exactly said x =
      let small = over_none counts (λ i l. low i) in
      let answers = rw (fit-asked template shape counts t read inside whole (omega (arith, small))) at x in
      let asked = question template t shape counts in
      (yes-exact asked said answers, no-exact asked said answers)

-- ---- those of a card's own links
module _ {words : List ℕ} {kinds : ℕ} {s : Sheet} (read : SheetAccepted words kinds s) (n : ℕ) where
  abbrev counts : List ℕ
  counts = card_counts s.script n s.links kinds

  -- the list has the count of each outgoing label
  low-listed : (k : ℕ) → k < max_kinds → counts_of s n k ≡ listed kinds counts k
  low-listed k h = ⊎_elim
      (λ l. none-past read n k l h
      ∙ sym (listed-none kinds counts k l h (omega (arith, card-counts-length s.script n s.links kinds))))
      (own-outgoing read.shapes.kinds-high read.links n k)
      (le-or-lt kinds k)

  -- so what a shape looks at counts alike
  looked-listed : (t : ℕ) → t < s.shapes
      → label_count (neighbours_of s n t) ≡ seen (opens_of s t) (part_of s t) (listed kinds counts)
  looked-listed t lt =
      let part = part_of s t in
      let o = opens_of s t in
      fun_ext (looked-count o part (neighbours s.script n s.links))
      ∙ seen_alike o part (counts_of s n) (listed kinds counts) (λ k e. ⊎_elim
      (λ m. own-named read.shapes.kinds-high read.links n k
      (names-kind kinds part (read.shapes.kinds-below t lt) k m))
      (λ h. low-listed k h.1)
      (looks-cases o part k e))

pub card-fits-exactly : (template script : List ℕ) (s : Sheet) (formed : Formed template script s)
    → (n t : ℕ) → n < s.cards → t < s.shapes
    → let counts = card_counts s.script n s.links formed.kinds in
    ((k : ℕ) → label_count (neighbours_of s n t) k ≡ seen (opens_of s t) (part_of s t) (listed formed.kinds counts) k)
    × ((said : Said) → FitSays template t counts said
    → (said ≡ values (1 ∷ [])) ↔ Fits s.shapes (part_of s t) (label_count (neighbours_of s n t)))
card-fits-exactly template script s formed n t ln lt =
    let kinds = formed.kinds in
    let read = formed-read template script s formed in
    let counts = card_counts s.script n s.links kinds in
    let same = looked-listed read n t lt
    ∙ ap (λ (xs : List ℕ). seen (opens xs t) (part_of s t) (listed kinds counts)) formed.template-words in (
      λ k. ap (λ (w : ℕ → ℕ). w k) (looked-listed read n t lt),
      λ said x. subst (λ (w : ℕ → ℕ). (said ≡ values (1 ∷ [])) ↔ Fits s.shapes (part_of s t) w) (sym same)
          (counts-fit-exactly template _ (formed-template template script s formed) t lt counts
          (card-counts-length s.script n s.links kinds) (own-low read.shapes.kinds-high read.links n)
          said x).0,
    )

-- The counts of a card's own links, listed as "Fit counts" takes them, are those of its neighbours.
-- own-way        a label counts among the neighbours what its kind counts one way
-- own-outgoing   each outgoing kind counts in the list what it counts among the neighbours
-- own-named      and so does each label of a kind
-- own-low        no count is over 8,192
-- Assumes nothing.
use Prim.Native.Nat.{ℕ, ◌+◌, ◌-◌, ◌*◌, ◌≤◌, ◌<◌}
use mathlib.Core.Path.{◌≡◌, sym, ap, ◌∙◌, subst}
use mathlib.Core.Logic.{⊎_elim}
use mathlib.Core.List.{List}
use native.Mathlib.Omega.{arith}
use lib.ListN.{get_or, get_or-eq_default}
use Rattle.words.specs.Limits.{max_kinds, max_count}
use Rattle.words.proofs.Bools.{le-or-lt}
use Rattle.bags.specs.Label.{Way, outgoing, incoming, label_of}
use Rattle.bags.specs.Look.{listed}
use Rattle.bags.specs.Proposition.{label_count}
use Rattle.bags.proofs.Naming.{OfKindBelow}
use Rattle.bags.proofs.Looking.{listed-outgoing, listed-incoming}
use Rattle.script.specs.Link.{neighbours}
use Rattle.links.specs.Counts.{way_count, card_counts}
use Rattle.script.proofs.Reading.{ScriptAccepted}
use Rattle.links.proofs.Counts.{way-count, way-count-bound, card-counts-length, card-counts-out, card-counts-in}

-- A card of a script that is read.
module _ {kinds cards links : ℕ} {script : List ℕ} (few : kinds ≤ max_kinds)
    (read : ScriptAccepted kinds script cards links) (n : ℕ) where
  abbrev counts : List ℕ
  counts = card_counts script n links kinds

  -- a label counts among the neighbours what its kind counts one way
  pub own-way : (way : Way) (k : ℕ) → k < kinds →
      label_count (neighbours script n links) (label_of way k) ≡ way_count way script n k links
  own-way way k l = way-count way script n k links (omega arith) (λ i h. omega (arith, read.kind-below i h))

  pub own-outgoing : (k : ℕ) → k < kinds → label_count (neighbours script n links) k ≡ listed kinds counts k
  own-outgoing k l =
      let own : k ≡ label_of outgoing k = omega arith in
      ap (label_count (neighbours script n links)) own ∙ own-way outgoing k l
      ∙ sym (listed-outgoing kinds counts few k l ∙ card-counts-out script n links kinds k l)

  own-incoming : (k : ℕ) → k < kinds →
      label_count (neighbours script n links) (label_of incoming k) ≡ listed kinds counts (label_of incoming k)
  own-incoming k l =
      own-way incoming k l ∙ sym (listed-incoming kinds counts k ∙ card-counts-in script n links kinds k l)

  pub own-named : (k : ℕ) → OfKindBelow kinds k → label_count (neighbours script n links) k ≡ listed kinds counts k
  own-named k (outgoing, kind, l, e) = own-outgoing k (omega arith)
  own-named k (incoming, kind, l, e) =
      subst (λ (x : ℕ). label_count (neighbours script n links) x ≡ listed kinds counts x) (sym e) (own-incoming
      kind l)

  -- no count is over that of the links
  own-low-out : (k : ℕ) → k < kinds → get_or counts k 0 ≤ max_count
  own-low-out k l = omega (
    arith,
    card-counts-out script n links kinds k l,
    way-count-bound outgoing script n k links,
    read.links-bound,
  )

  own-low-in : (k : ℕ) → kinds ≤ k → k < 2 * kinds → get_or counts k 0 ≤ max_count
  own-low-in k h l =
      let again : kinds + (k - kinds) ≡ k = omega arith in
      subst (λ (x : ℕ). get_or counts x 0 ≤ max_count) again (omega (
        arith,
        card-counts-in script n links kinds (k - kinds) (omega arith),
        way-count-bound incoming script n (k - kinds) links,
        read.links-bound,
      ))

  pub own-low : (k : ℕ) → get_or counts k 0 ≤ max_count
  own-low k = ⊎_elim
      (λ past. omega (
        arith,
        get_or-eq_default counts 0 {n = k} (omega (arith, card-counts-length script n links kinds)),
      ))
      (λ l. ⊎_elim (λ h. own-low-in k h l) (own-low-out k) (le-or-lt kinds k))
      (le-or-lt (2 * kinds) k)

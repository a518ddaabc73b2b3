-- Spreading a list of counts, those of the outgoing kinds and then those of the incoming ones, over all labels.
-- first_count        where the counts of a way start in the list
-- Spreading         what holds before each kind: the kinds before it are spread, the others count 0
-- spreading-start   it holds of labels that all count 0
-- spreading-next    it holds after the two counts of a kind were written
-- spreading-end     after the last kind each label has the count that the list has for it
-- Assumes nothing.
use Prim.Native.Nat.{ℕ, ◌+◌, ◌-◌, ◌*◌, ◌≤◌, ◌<◌}
use mathlib.Core.Path.{◌≡◌, sym, ◌∙◌, ap}
use mathlib.Core.Logic.{⊎_elim}
use mathlib.Core.List.{List}
use native.Mathlib.Omega.{arith}
use native.Mathlib.Nat.{zero-add}
use lib.ListN.{length, set, replicate, length-set, length-replicate, get_or-eq_default}
use lib.Seq.{get_or-set_same, get_or-set_other}
use Rattle.words.specs.Limits.{max_kinds, max_labels}
use Rattle.words.proofs.Bools.{le-or-lt, eq-or-ne}
use Rattle.bags.specs.Label.{Way, outgoing, incoming, label_of}
use Rattle.bags.specs.Bag.{count}
use Rattle.bags.specs.Look.{listed}
use Rattle.bags.proofs.Looking.{listed-outgoing, listed-incoming, listed-none}
use Rattle.parts.proofs.Codes.{label-kind}
use Rattle.parts.proofs.Trees.{no-entry}
use Rattle.counts.specs.Machine.{Spread}

-- Where the counts of a way start in a list with the counts of so many kinds each way.
abbrev first_count : ℕ → Way → ℕ
first_count kinds outgoing = 0
first_count kinds incoming = kinds

-- What holds before the kind k.
pub record Spreading (counts : List ℕ) (kinds : ℕ) (labels : List ℕ) (k : ℕ) : Type 0 where
  pub full : length labels ≡ max_labels
  pub within : k ≤ kinds
  -- the kinds before it have their counts, each way
  pub done : (way : Way) (j : ℕ) → j < k → count labels (label_of way j) ≡ count counts (first_count kinds way + j)
  -- the others count 0
  pub rest : (way : Way) (j : ℕ) → k ≤ j → j < max_kinds → count labels (label_of way j) ≡ 0

module _ (counts : List ℕ) (kinds : ℕ) where
  pub spreading-start : (labels : List ℕ) → labels ≡ replicate max_labels 0 → Spreading counts kinds labels 0
  spreading-start labels e =
      record {
        full = ap length e ∙ length-replicate {A = ℕ} max_labels 0;
        within = omega arith;
        done = λ way j l. absurd (omega arith);
        rest = λ way j l h. ap (λ (xs : List ℕ). count xs (label_of way j)) e ∙ no-entry max_labels (label_of way j);
      }

  -- The counts of the kind k are written to its labels.
  module _ (labels : List ℕ) (k : ℕ) (low : k < max_kinds) (full : length labels ≡ max_labels) where
    abbrev out : List ℕ
    out = set labels k (count counts k)

    abbrev both : List ℕ
    both = set out (max_kinds + k) (count counts (kinds + k))

    written-here : (way : Way) → count both (label_of way k) ≡ count counts (first_count kinds way + k)
    written-here outgoing =
        rw zero-add
        (get_or-set_other out (max_kinds + k) k (count counts (kinds + k)) 0 (omega arith)
        ∙ get_or-set_same labels k (count counts k) 0 (omega arith))
    written-here incoming =
        get_or-set_same out (max_kinds + k) (count counts (kinds + k)) 0
        (omega (arith, length-set labels k (count counts k)))

    written-other :
        (way : Way) (j : ℕ) → j < max_kinds → (j ≡ k → ⊥) → count both (label_of way j) ≡ count labels (label_of way j)
    written-other way j h d =
        let (e, f) = apart way j h d in
        get_or-set_other out (max_kinds + k) (label_of way j) (count counts (kinds + k)) 0 e
        ∙ get_or-set_other labels k (label_of way j) (count counts k) 0 f
      where
        apart :
            (way : Way) (j : ℕ) → j < max_kinds → (j ≡ k → ⊥) →
            (label_of way j ≡ max_kinds + k → ⊥) × (label_of way j ≡ k → ⊥)
        apart outgoing j h d = omega arith
        apart incoming j h d = omega arith

  pub spreading-next :
      (labels : List ℕ) (k : ℕ) → kinds ≤ max_kinds → k < kinds → Spreading counts kinds labels k →
      Spreading counts kinds (set (set labels k (count counts k)) (max_kinds + k) (count counts (kinds + k))) (k + 1)
  spreading-next labels k few below s =
      let low : k < max_kinds = omega arith in
      let other = written-other labels k low s.full in
      record {
        full = length-set (out labels k low s.full) (max_kinds + k) (count counts (kinds + k))
            ∙ length-set labels k (count counts k) ∙ s.full;
        within = omega arith;
        done =
            λ way j l.
            ⊎_elim
            (λ q. rw q (written-here labels k low s.full way))
            (λ d. other way j (omega arith) d ∙ s.done way j (omega arith))
            (eq-or-ne j k);
        rest = λ way j l h. other way j h (omega arith) ∙ s.rest way j (omega arith) h;
      }

  -- What the list has for a label of one of the kinds, and of none.
  module _ (few : kinds ≤ max_kinds) (each_way : length counts ≡ 2 * kinds) where
    listed-kind :
        (way : Way) (j : ℕ) → j < kinds → listed kinds counts (label_of way j) ≡ count counts (first_count kinds
        way + j)
    listed-kind outgoing j l = rw zero-add (listed-outgoing kinds counts few j l)
    listed-kind incoming j l = listed-incoming kinds counts j

    listed-past : (way : Way) (j : ℕ) → kinds ≤ j → j < max_kinds → listed kinds counts (label_of way j) ≡ 0
    listed-past outgoing j l h = rw zero-add (listed-none kinds counts j l h (omega arith))
    listed-past incoming j l h =
        listed-incoming kinds counts j ∙ get_or-eq_default counts 0 (omega arith)

    pub spreading-end :
        (labels : List ℕ) (k : ℕ) → kinds ≤ k → Spreading counts kinds labels k → Spread counts kinds labels
    spreading-end labels k last s = record { full = s.full; exact = exact }
      where
        at_label :
            (way : Way) (j : ℕ) → j < max_kinds → count labels (label_of way j) ≡ listed kinds counts (label_of way j)
        at_label way j h =
            ⊎_elim
            (λ l. s.rest way j (omega (arith, s.within)) h ∙ sym (listed-past way j l h))
            (λ l. s.done way j (omega arith) ∙ sym (listed-kind way j l))
            (le-or-lt kinds j)

        past : (label : ℕ) → max_labels ≤ label → count labels label ≡ listed kinds counts label
        past label l =
            let e : label_of incoming (label - max_kinds) ≡ label = omega arith in
            let none = listed-incoming kinds counts (label - max_kinds) ∙ get_or-eq_default counts 0 (omega arith) in
            get_or-eq_default labels 0 (omega (arith, s.full)) ∙ sym (rw e at none)

        exact : (label : ℕ) → count labels label ≡ listed kinds counts label
        exact label =
            ⊎_elim
            (past label)
            (λ l. let (way, j, h, q) = label-kind label l in rw q (at_label way j h))
            (le-or-lt max_labels label)

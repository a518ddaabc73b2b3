-- Counts of a card's links: by kind and way, and over its neighbours.
-- way-count       a label counts among a card's neighbours what its kind counts one way
-- way-count-same, way-count-kind, way-count-past   one link more; way-count-skip: links that are not the card's
-- way-count-bound  a count is at most that of the links
-- way-counts-length, way-counts-at   the counts of all kinds one way
-- card-counts-length, card-counts-out, card-counts-in   a card's counts
-- Assumes nothing.
use Prim.Native.Nat.{ℕ, zero, suc, ◌+◌, ◌*◌, ◌≤◌, ◌<◌}
use mathlib.Core.Path.{◌≡◌, refl, sym, ap, ◌∙◌}
use mathlib.Core.Logic.{⊎_elim}
use mathlib.Core.List.{List, [], ◌∷◌, ◌++◌}
use native.Mathlib.Omega.{arith}
use native.Mathlib.Nat.{add-zero, add-suc}
use lib.ListN.{length, get_or, length-append, get_or-append}
use lib.Seq.{get_or-append_seam, get_or-append-add}
use lib.Dec.{eqb}
use borrow.Author.Tests.{eq-eqb, ne_eqb}
use Rattle.words.specs.Limits.{max_kinds}
use Rattle.words.proofs.Bools.{eq-or-ne, last-or-below, one-or-none}
use Rattle.bags.specs.Label.{Way, outgoing, incoming, label_of}
use Rattle.bags.specs.Proposition.{label_count}
use Rattle.script.specs.Link.{kind_at, near_at, neighbours}
use Rattle.script.proofs.Neighbours.{sighted, sighted-same, sighted-past, sighted-other, label-more}
use Rattle.links.specs.Counts.{way_count, way_counts, card_counts}

-- ---- one link more
module _ (way : Way) (script : List ℕ) (c kind m : ℕ) where
  pub way-count-same : near_at way script m ≡ c → kind ≡ kind_at script m
      → way_count way script c kind (suc m) ≡ way_count way script c kind m + 1
  unfolding way_count
  way-count-same e k = rw (eq-eqb (near_at way script m) c e, eq-eqb kind (kind_at script m) k) refl

  pub way-count-kind : (kind ≡ kind_at script m → ⊥)
      → way_count way script c kind (suc m) ≡ way_count way script c kind m
  unfolding way_count
  way-count-kind ne = ⊎_elim
      (λ e. rw (eq-eqb (near_at way script m) c e, ne_eqb kind (kind_at script m) ne) (omega arith))
      (λ e. rw (ne_eqb (near_at way script m) c e) (omega arith))
      (eq-or-ne (near_at way script m) c)

  pub way-count-past : (near_at way script m ≡ c → ⊥)
      → way_count way script c kind (suc m) ≡ way_count way script c kind m
  unfolding way_count
  way-count-past ne = rw (ne_eqb (near_at way script m) c ne) (omega arith)

-- Links that do not have the card for their near end add nothing.
pub way-count-skip : (way : Way) (script : List ℕ) (c kind a d : ℕ)
    → ((i : ℕ) → a ≤ i → i < a + d → near_at way script i ≡ c → ⊥)
    → way_count way script c kind (a + d) ≡ way_count way script c kind a
way-count-skip way script c kind a zero h = rw add-zero refl
way-count-skip way script c kind a (suc d) h =
    rw add-suc
    (way-count-past way script c kind (a + d) (h (a + d) (omega arith) (omega arith))
    ∙ way-count-skip way script c kind a d (λ i l b. h i l (omega arith)))

pub way-count-bound : (way : Way) (script : List ℕ) (c kind m : ℕ) → way_count way script c kind m ≤ m
unfolding way_count
way-count-bound way script c kind zero = omega arith
way-count-bound way script c kind (suc m) =
    let rest = way-count-bound way script c kind m in
    ⊎_elim
    (λ e. rw (eq-eqb (near_at way script m) c e) (omega (arith, rest, one-or-none (eqb kind (kind_at script m)))))
    (λ ne. rw (ne_eqb (near_at way script m) c ne) (omega (arith, rest)))
    (eq-or-ne (near_at way script m) c)

-- ---- of all kinds
module _ (way : Way) (script : List ℕ) (c m : ℕ) where
  way-counts-length : (kinds : ℕ) → length (way_counts way script c m kinds) ≡ kinds
  unfolding way_counts
  way-counts-length zero = refl
  way-counts-length (suc kinds) =
      length-append (way_counts way script c m kinds) (way_count way script c kinds m ∷ [])
      ∙ omega (arith, way-counts-length kinds)

  way-counts-at : (kinds k : ℕ) → k < kinds → get_or (way_counts way script c m kinds) k 0 ≡ way_count way script c k m
  unfolding way_counts
  way-counts-at zero k l = absurd (omega arith)
  way-counts-at (suc kinds) k l =
      let counts = way_counts way script c m kinds in
      let last = way_count way script c kinds m ∷ [] in ⊎_elim
      (λ e. ap (λ (j : ℕ). get_or (counts ++ last) j 0) (e ∙ sym (way-counts-length kinds))
      ∙ get_or-append_seam counts (way_count way script c kinds m) [] 0
      ∙ ap (λ (j : ℕ). way_count way script c j m) (sym e))
      (λ h. get_or-append counts last 0 k (omega (arith, way-counts-length kinds)) ∙ way-counts-at kinds k h)
      (last-or-below l)

-- A card's counts: those of the links from it, then those of the links to it.
module _ (script : List ℕ) (c m kinds : ℕ) where
  pub card-counts-length : length (card_counts script c m kinds) ≡ 2 * kinds
  card-counts-length =
      length-append (way_counts outgoing script c m kinds) (way_counts incoming script c m kinds)
      ∙ omega (arith, way-counts-length outgoing script c m kinds, way-counts-length incoming script c m kinds)

  pub card-counts-out : (k : ℕ) → k < kinds → get_or (card_counts script c m kinds) k 0 ≡ way_count outgoing script
      c k m
  card-counts-out k l =
      get_or-append (way_counts outgoing script c m kinds) (way_counts incoming script c m kinds) 0 k
      (omega (arith, way-counts-length outgoing script c m kinds))
      ∙ way-counts-at outgoing script c m kinds k l

  pub card-counts-in : (k : ℕ) → k < kinds
      → get_or (card_counts script c m kinds) (kinds + k) 0 ≡ way_count incoming script c k m
  card-counts-in k l =
      ap (λ (j : ℕ). get_or (card_counts script c m kinds) (j + k) 0) (sym (way-counts-length outgoing script c m
      kinds))
      ∙ get_or-append-add (way_counts outgoing script c m kinds) (way_counts incoming script c m kinds) k 0
      ∙ way-counts-at incoming script c m kinds k l

-- ---- over the neighbours
-- What a card sees of link m adds to the count of a label what the link adds to its kind's count that way.
module _ (script : List ℕ) (c kind m : ℕ) where
  own-way : (way : Way) → way_count way script c kind m + sighted way script c (label_of way kind) m
      ≡ way_count way script c kind (suc m)
  own-way way = ⊎_elim
      (λ e. ⊎_elim
      (λ q. omega (
        arith,
        way-count-same way script c kind m e q,
        sighted-same way script c (label_of way kind) m e (ap (label_of way) q),
      ))
      (λ ne. omega (
        arith,
        way-count-kind way script c kind m ne,
        sighted-other way script c (label_of way kind) m (λ q. ne (omega (arith, q))),
      ))
      (eq-or-ne kind (kind_at script m)))
      (λ e. omega (arith, way-count-past way script c kind m e, sighted-past way script c (label_of way kind) m e))
      (eq-or-ne (near_at way script m) c)

  seen_more : (way : Way) → kind < max_kinds → kind_at script m < max_kinds
      → sighted outgoing script c (label_of way kind) m + sighted incoming script c (label_of way kind) m
      ≡ sighted way script c (label_of way kind) m
  seen_more outgoing l h =
      omega (arith, sighted-other incoming script c (label_of outgoing kind) m (λ q. omega (arith, q)))
  seen_more incoming l h =
      omega (arith, sighted-other outgoing script c (label_of incoming kind) m (λ q. omega (arith, q)))

pub way-count : (way : Way) (script : List ℕ) (c kind m : ℕ) → kind < max_kinds
    → ((i : ℕ) → i < m → kind_at script i < max_kinds)
    → label_count (neighbours script c m) (label_of way kind) ≡ way_count way script c kind m
unfolding neighbours way_count
way-count way script c kind zero l h = refl
way-count way script c kind (suc m) l h =
    label-more script c (label_of way kind) m
    ∙ omega (
      arith,
      way-count way script c kind m l (λ i b. h i (omega arith)),
      seen_more script c kind m way l (h m (omega arith)),
      own-way script c kind m way,
    )

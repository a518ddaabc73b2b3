-- What a card sees of a script's links, from either end.
-- Leads             one of the links has the card for its near end, this label and this far end, seen one way
-- neighbours-exact  a label and a far card are a neighbour exactly if a link leads so, one way or the other
-- self-link         a link from a card to itself is there under both of its labels
-- sighted           how often a label is seen of one link, one way
-- sighted-same, sighted-other, sighted-past   once where it is the link's label and the card its near end, else not
-- label-more        how often a label is seen of one link more; label-none: not, if no link has its kind
-- Assumes nothing.
use Prim.Native.Nat.{ℕ, zero, suc, ◌+◌, ◌<◌}
use mathlib.Core.Path.{◌≡◌, refl, sym, ap, ap₂, subst, ◌∙◌}
use mathlib.Core.Logic.{⊎_elim, ◌↔◌}
use mathlib.Core.List.Memᴰ
use mathlib.Core.List.{List, [], ◌∷◌, ◌++◌, Memᴰ}
use native.Mathlib.Omega.{arith}
use native.Mathlib.Nat.{eq-or-lt_of_le, le_of_suc-le-suc, not-suc-le-zero}
use borrow.Author.Tests.{eq-eqb, ne_eqb}
use Rattle.words.specs.Limits.{max_kinds}
use Rattle.words.proofs.Bools.{eq-or-ne}
use Rattle.bags.specs.Label.{Way, outgoing, incoming, label_of}
use Rattle.bags.specs.Choice.{Neighbour, to}
use Rattle.bags.specs.Proposition.{label_count}
use Rattle.bags.proofs.Totals.{when-yes, when-no}
use Rattle.script.specs.Link.{from_at, kind_at, to_at, near_at, label_at, far_at, sight, neighbours}

-- One of the first m links, seen one way, has the card for its near end, this label, and this far end.
pub record Leads (script : List ℕ) (card m label far : ℕ) : Type 0 where
  pub way : Way
  pub link : ℕ
  pub below : link < m
  pub near-is : near_at way script link ≡ card
  pub label_is : label_at way script link ≡ label
  pub far-is : far_at way script link ≡ far

-- Link i, seen one way.
module _ (way : Way) (script : List ℕ) (c i : ℕ) where
  sight-near : near_at way script i ≡ c → sight way script c i ≡ to (label_at way script i) (far_at way script i) ∷ []
  sight-near e = rw (eq-eqb (near_at way script i) c e) refl

  sight-none : (near_at way script i ≡ c → ⊥) → sight way script c i ≡ []
  sight-none ne = rw (ne_eqb (near_at way script i) c ne) refl

module _ (script : List ℕ) (c label far : ℕ) where
  -- The neighbour looked for.
  abbrev Seen : List Neighbour → Type 0
  Seen ns = Memᴰ (to label far) ns

  seen-leads : (way : Way) (m : ℕ) → Seen (sight way script c m) → Leads script c (suc m) label far
  seen-leads way m h = ⊎_elim
      (λ e.
      let q = Memᴰ.eq_of_singleton (subst Seen (sight-near way script c m e) h) in
      let k : label_at way script m ≡ label = cc in
      let t : far_at way script m ≡ far = cc in
      record { way = way; link = m; below = omega arith; near-is = e; label_is = k; far-is = t })
      (λ ne. absurd (Memᴰ.not-nil (subst Seen (sight-none way script c m ne) h)))
      (eq-or-ne (near_at way script m) c)

  leads-more : (m : ℕ) → Leads script c m label far → Leads script c (suc m) label far
  leads-more m l = record {
    way = l.way;
    link = l.link;
    below = omega (arith, l.below);
    near-is = l.near-is;
    label_is = l.label_is;
    far-is = l.far-is;
  }

  neighbour-leads : (m : ℕ) → Seen (neighbours script c m) → Leads script c m label far
  unfolding neighbours
  neighbour-leads zero h = absurd (Memᴰ.not-nil h)
  neighbour-leads (suc m) h = ⊎_elim
      (λ d. leads-more m (neighbour-leads m d))
      (λ d. ⊎_elim (seen-leads outgoing m) (seen-leads incoming m)
      (Memᴰ.append_cases (sight outgoing script c m) d))
      (Memᴰ.append_cases (neighbours script c m) h)

  either_way : (way : Way) (m : ℕ) → Seen (sight way script c m)
      → Seen (sight outgoing script c m ++ sight incoming script c m)
  either_way outgoing m h = Memᴰ.append_left (sight incoming script c m) h
  either_way incoming m h = Memᴰ.append_right (sight outgoing script c m) h

  leads-seen : (m : ℕ) (l : Leads script c (suc m) label far) → l.link ≡ m → Seen (sight l.way script c m)
  leads-seen m l q =
      let s : to label far ≡ to (label_at l.way script m) (far_at l.way script m) =
      ap₂ to (sym l.label_is ∙ ap (label_at l.way script) q) (sym l.far-is ∙ ap (far_at l.way script) q) in
      subst Seen (sym (sight-near l.way script c m (sym (ap (near_at l.way script) q) ∙ l.near-is)))
      (Memᴰ.head s)

  leads-neighbour : (m : ℕ) → Leads script c m label far → Seen (neighbours script c m)
  unfolding neighbours
  leads-neighbour zero l = absurd (not-suc-le-zero l.below)
  leads-neighbour (suc m) l = ⊎_elim
      (λ q. Memᴰ.append_right (neighbours script c m) (either_way l.way m (leads-seen m l q)))
      (λ lt. Memᴰ.append_left (sight outgoing script c m ++ sight incoming script c m) (leads-neighbour m (record {
        way = l.way;
        link = l.link;
        below = lt;
        near-is = l.near-is;
        label_is = l.label_is;
        far-is = l.far-is;
      })))
      (eq-or-lt_of_le (le_of_suc-le-suc l.below))

  pub neighbours-exact : (m : ℕ) → Memᴰ (to label far) (neighbours script c m) ↔ Leads script c m label far
  neighbours-exact m = (neighbour-leads m, leads-neighbour m)

pub self-link : (script : List ℕ) (n m i : ℕ) → i < m → from_at script i ≡ n → to_at script i ≡ n
    → (way : Way) → Memᴰ (to (label_of way (kind_at script i)) n) (neighbours script n m)
self-link script n m i l starts leads way = (neighbours-exact script n (label_at way script i) n m).1 (by way)
  where
    by : (w : Way) → Leads script n m (label_at w script i) n
    by outgoing = record { way = outgoing; link = i; below = l; near-is = starts; label_is = refl; far-is = leads }
    by incoming = record { way = incoming; link = i; below = l; near-is = leads; label_is = refl; far-is = starts }

-- ---- how often a label is seen
label-count-append : (xs ys : List Neighbour) (k : ℕ)
    → label_count (xs ++ ys) k ≡ label_count xs k + label_count ys k
label-count-append [] ys k = omega arith
label-count-append (to label far ∷ xs) ys k = omega (arith, label-count-append xs ys k)

-- The label k counts among what a card sees of link m one way: once where it is the link's label.
module _ (way : Way) (script : List ℕ) (c k m : ℕ) where
  abbrev pub sighted : ℕ
  sighted = label_count (sight way script c m) k

  pub sighted-same : near_at way script m ≡ c → k ≡ label_at way script m → sighted ≡ 1
  sighted-same e q =
      ap (λ (ns : List Neighbour). label_count ns k) (sight-near way script c m e)
      ∙ omega (arith, when-yes k (label_at way script m) 1 q)

  pub sighted-past : (near_at way script m ≡ c → ⊥) → sighted ≡ 0
  sighted-past ne = ap (λ (ns : List Neighbour). label_count ns k) (sight-none way script c m ne)

  pub sighted-other : (k ≡ label_at way script m → ⊥) → sighted ≡ 0
  sighted-other ne = ⊎_elim
      (λ e.
      ap (λ (ns : List Neighbour). label_count ns k) (sight-near way script c m e)
      ∙ omega (arith, when-no k (label_at way script m) 1 ne))
      (λ e. sighted-past e)
      (eq-or-ne (near_at way script m) c)

-- One link more.
pub label-more : (script : List ℕ) (c k m : ℕ)
    → label_count (neighbours script c (suc m)) k
    ≡ label_count (neighbours script c m) k + (sighted outgoing script c k m + sighted incoming script c k m)
unfolding neighbours
label-more script c k m =
    label-count-append (neighbours script c m) (sight outgoing script c m ++ sight incoming script c m) k
    ∙ ap (λ (x : ℕ). label_count (neighbours script c m) k + x)
    (label-count-append (sight outgoing script c m) (sight incoming script c m) k)

-- An outgoing label whose kind no link has is not seen.
pub label-none : (script : List ℕ) (c kind m : ℕ) → kind < max_kinds
    → ((i : ℕ) → i < m → kind ≡ kind_at script i → ⊥) → label_count (neighbours script c m) kind ≡ 0
unfolding neighbours
label-none script c kind zero l h = refl
label-none script c kind (suc m) l h =
    label-more script c kind m
    ∙ omega (
      arith,
      label-none script c kind m l (λ i b. h i (omega arith)),
      sighted-other outgoing script c kind m (λ e. h m (omega arith) (omega (arith, e))),
      sighted-other incoming script c kind m (λ e. omega (arith, e)),
    )

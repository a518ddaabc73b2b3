-- What walks along the links of a pair's card make good, as what the pair needs.
--   from-word, kind-word, to_word   the words of a link
--   kind-in                   a link's kind is below the limit
--   Half, half-row            one half of a shape's row of the table, as a part of it
--   row-asked                 what following links by it asks
--   led-needs, needs-led      p needs q where a link that p's card sees one way leads to q, and only there
--   range-rising, range-in, range-from, from-range   the links from a card, by where they start
--   arrivals-at               the links to a card
-- Assumes nothing.
use mathlib.Core.Path.{◌≡◌, refl, sym, ap, ◌∙◌, subst}
use mathlib.Core.List.{List}
use Prim.Native.Nat.{ℕ, suc, ◌+◌, ◌*◌, ◌/◌, ◌%◌, ◌≤◌, ◌<◌}
use native.Mathlib.Omega.{arith}
use lib.ListN.{length, get_or, take, drop, length-drop}
use lib.Seq.{get_or-take, get_or-drop, length-take-le}
use Rattle.words.specs.Limits.{max_kinds, max_labels}
use Rattle.words.proofs.Places.{card-room, shape-in}
use Rattle.bags.specs.Label.{Way, incoming, first_label, label_of}
use Rattle.template.specs.Machine.{entry_at}
use Rattle.script.specs.Link.{from_at, kind_at, to_at, near_at, label_at, far_at}
use Rattle.links.specs.Index.{ArrivalsOf}
use Rattle.typing.specs.Needs.{Needs, Ready}
use Rattle.typing.proofs.Boards.{pairs-bound, led-in}
use Rattle.walks.specs.Walks.{Starts}
use Rattle.walks.specs.Entries.{LedGood, RowAsked}

-- ---- the words of a link
pub from-word : (script : List ℕ) (i : ℕ) → get_or script (2 + 3 * i) 0 ≡ from_at script i
unfolding from_at
from-word script i = refl

pub kind-word : (script : List ℕ) (i : ℕ) → get_or script (3 + 3 * i) 0 ≡ kind_at script i
unfolding kind_at
kind-word script i = refl

pub to_word : (script : List ℕ) (i : ℕ) → get_or script (4 + 3 * i) 0 ≡ to_at script i
unfolding to_at
to_word script i = refl

-- One half of the row of the shape t: the entries of all kinds seen one way.
pub record Half (names : List ℕ) (t : ℕ) (way : Way) (row : List ℕ) : Type 0 where
  pub full : length row ≡ max_kinds
  pub entries : (k : ℕ) → k < max_kinds → get_or row k 0 ≡ entry_at names t (label_of way k)

pub half-row : (names : List ℕ) (t : ℕ) (way : Way) (base n : ℕ) → base ≡ t * max_labels + first_label way
    → n ≡ max_kinds → base + max_kinds ≤ length names → Half names t way (take n (drop base names))
half-row names t way base n b e room = record {
  full = length-take-le n (drop base names) (simp length-drop (omega arith)) ∙ e;
  entries = λ k l. get_or-take n (drop base names) k 0 (omega arith) ∙ get_or-drop base names k 0
      ∙ ap (λ (x : ℕ). get_or names x 0) (omega arith);
}

module _ {script names : List ℕ} {shapes : ℕ} (ready : Ready script names shapes) where
  pub kind-in : (i : ℕ) → i < get_or script 1 0 → kind_at script i < max_kinds
  kind-in i l = omega (arith, ready.label-in incoming i l)

  -- ---- by the halves of p's row
  module _ {t : ℕ} {way : Way} {row : List ℕ} (lt : t < shapes) (half : Half names t way row) where
    half-entry : (i : ℕ) → i < get_or script 1 0 → get_or row (kind_at script i) 0 ≡ entry_at names t (label_at way
        script i)
    half-entry i l = half.entries (kind_at script i) (kind-in i l)

    pub row-asked : {places : ℕ} → places ≡ get_or script 0 0 * shapes → RowAsked way script row shapes places
    row-asked {places} e = record {
      few-links = ready.few-links;
      words = ready.words;
      kinds = λ i l. omega (arith, kind-in i l, half.full);
      few-places = omega (arith, e, pairs-bound ready);
      led = λ i p l g. subst (λ (x : ℕ). x < places) (sym g.at) (omega (
        arith,
        led-in ready way t i (far_at way script i) g.shape lt l refl (sym (half-entry i l) ∙ g.names-it),
        e,
      ));
      cards = λ i l. omega (
        arith,
        card-room (get_or script 0 0) shapes (far_at way script i) (ready.far-in way i
            l),
        e,
      );
    }

  module _ (p : ℕ) {way : Way} {row : List ℕ} (half : Half names (p % shapes) way row) where
    pub led-needs : (i q : ℕ) → i < get_or script 1 0 → near_at way script i ≡ p / shapes
        → LedGood way script row shapes i q → Needs script names shapes p q
    led-needs i q l near g = record {
      way = way;
      link = i;
      below = l;
      starts = near;
      shape = g.shape;
      names-it = sym (half-entry (shape-in shapes ready.one-shape p) half i l) ∙ g.names-it;
      leads = g.at;
    }

    pub needs-led : (i q u : ℕ) → i < get_or script 1 0 → entry_at names (p % shapes) (label_at way script i) ≡ suc u
        → q ≡ far_at way script i * shapes + u → LedGood way script row shapes i q
    needs-led i q u l e at = record {
      shape = u;
      names-it = half-entry (shape-in shapes ready.one-shape p) half i l ∙ e;
      at = at;
    }

-- ---- the links from a card, by where they start
module _ {script starts : List ℕ} (st : Starts script starts) {c lo hi : ℕ} (lc : c < get_or script 0 0)
    (low : lo ≡ get_or starts c 0) (high : hi ≡ get_or starts (c + 1) 0) where
  pub range-rising : lo ≤ hi
  range-rising = omega (arith, st.rising c lc)

  pub range-in : hi ≤ get_or script 1 0
  range-in = omega (arith, st.within (c + 1) (omega arith))

  pub range-from : (i : ℕ) → lo ≤ i → i < hi → from_at script i ≡ c
  range-from i a b = st.right c i lc (omega arith) (omega arith)

  pub from-range : (i : ℕ) → i < get_or script 1 0 → from_at script i ≡ c → (lo ≤ i) × (i < hi)
  from-range i l e =
      let (a, b) = st.each i l in (
        omega (arith, subst (λ (x : ℕ). get_or starts x 0 ≤ i) e a),
        omega (arith, subst (λ (x : ℕ). i < get_or starts (x + 1) 0) e b),
      )

-- A card below the count of cards has its chain.
pub arrivals-at : {script first next : List ℕ} {m : ℕ}
    → ArrivalsOf script first next (get_or script 0 0) (get_or script 1 0)
    → m < get_or script 0 0 → ArrivalsOf script first next (m + 1) (get_or script 1 0)
arrivals-at a l = record { cards-in = omega (arith, a.cards-in); links-in = a.links-in; chained = a.chained }

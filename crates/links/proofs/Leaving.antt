-- The links from one card: where their words stand, and that they are sorted by kind.
-- card-kind    the kind of link i of a card is that of a link of the script
-- card-rise    the kinds of a card's links rise; card-many: how many links there are
-- card-kinds   as many of them have a kind as start at the card and have it
-- leaving-fewer                   where the links start, of fewer cards
-- leaving-within, leaving-words   where the links from a card lie, and their words, for the code
-- Assumes nothing.
use Prim.Native.Nat.{ℕ, zero, suc, ◌+◌, ◌-◌, ◌*◌, ◌≤◌, ◌<◌}
use mathlib.Core.Path.{◌≡◌, refl, sym, ap, ◌∙◌}
use mathlib.Core.Logic.{⊎_elim}
use mathlib.Core.List.{List}
use native.Mathlib.Omega.{arith}
use native.Mathlib.Nat.{add-suc}
use native.Mathlib.Numerals.{add-one}
use lib.ListN.{length, get_or, take, drop, length-take, length-drop}
use lib.Seq.{get_or-take, get_or-drop}
use borrow.Author.Tests.{eq-eqb, ne_eqb}
use Rattle.words.proofs.Bools.{eq-or-ne}
use Rattle.bags.specs.Label.{outgoing}
use Rattle.board.specs.Grid.{tally}
use Rattle.board.proofs.Tally.{tally-zero, tally-hit, tally-miss}
use Rattle.script.specs.Link.{from_at, kind_at, card_words, below}
use Rattle.script.specs.Steps.{Ascending, LinksIn}
use Rattle.script.proofs.Order.{starts-rise, kinds-rise}
use Rattle.script.proofs.Cards.{part, card-part, part-within, part-words, below-le, below-low, below-high}
use Rattle.script.proofs.Cards.{starts-exact}
use Rattle.links.specs.Counts.{way_count}
use Rattle.links.specs.Runs.{kind_in, kinds_in, KindsRise}
use Rattle.links.specs.Index.{LeavingOf}
use Rattle.links.proofs.Counts.{way-count-same, way-count-kind, way-count-skip}
use Rattle.links.proofs.Runs.{of_kind, kinds-all}

-- ---- a part of a script
-- The kind of link i of the part from link lo on and below link hi is that of link lo + i of the script.
part-kind : (script : List ℕ) (lo hi i : ℕ) → lo + i < hi → kind_in (part script lo hi) i ≡ kind_at script (lo + i)
unfolding kind_in kind_at part
part-kind script lo hi i l =
    let e : 2 + 3 * lo + (1 + 3 * i) ≡ 3 + 3 * (lo + i) = omega arith in
    get_or-take (3 * (hi - lo)) (drop (2 + 3 * lo) script) (1 + 3 * i) 0 (omega arith)
    ∙ get_or-drop (2 + 3 * lo) script (1 + 3 * i) 0
    ∙ ap (λ (x : ℕ). get_or script x 0) e

-- The part has three words for each link.
part-size : (script : List ℕ) (lo hi : ℕ) → LinksIn script lo hi → length (part script lo hi) ≡ 3 * (hi - lo)
unfolding part
part-size script lo hi within = simp (length-take, length-drop) (omega (arith, within.order, within.end))

-- ---- the links from a card
module _ (script : List ℕ) (m : ℕ) (a : Ascending script m) (n : ℕ) where
  -- the first of them, the first after them, and their words
  abbrev lo : ℕ
  lo = below script n m

  abbrev hi : ℕ
  hi = below script (n + 1) m

  abbrev own : List ℕ
  own = card_words script n m

  own-part : own ≡ part script lo hi
  own-part = card-part script m (starts-rise script m a) a.size n

  own-within : LinksIn script lo hi
  own-within = part-within script m a n lo hi refl refl

  pub card-kind : (i : ℕ) → lo + i < hi → kind_in own i ≡ kind_at script (lo + i)
  card-kind i l = ap (λ (ws : List ℕ). kind_in ws i) own-part ∙ part-kind script lo hi i l

  -- They start at the card, and those before and after them do not.
  starts-here : (i : ℕ) → lo ≤ i → i < hi → from_at script i ≡ n
  starts-here i l h =
      (starts-exact script m (starts-rise script m a) n i (omega (arith, below-le script (n + 1) m))).1 (l, h)

  starts-before : (i : ℕ) → 0 ≤ i → i < 0 + lo → from_at script i ≡ n → ⊥
  starts-before i l h e = omega (arith, below-low script m (starts-rise script m a) n i (omega arith))

  starts-after : (i : ℕ) → hi ≤ i → i < hi + (m - hi) → from_at script i ≡ n → ⊥
  starts-after i l h e =
      omega (arith, below-high script m (starts-rise script m a) (n + 1) i l (omega arith))

  -- Their kinds rise, and there are as many as from lo to hi.
  pub card-rise : KindsRise own
  card-rise = record {
    many = hi - lo;
    size = ap length own-part ∙ part-size script lo hi own-within;
    few = omega (arith, own-within.few);
    rising = λ i j l h.
        let here = starts-here (lo + i) (omega arith) (omega arith) in
        let there = starts-here (lo + j) (omega arith) (omega arith) in
        let top = below-le script (n + 1) m in
        omega (
          arith,
          card-kind i (omega arith),
          card-kind j (omega arith),
          kinds-rise script m a (lo + i) (lo + j) (omega arith) (omega arith) (here ∙ sym there),
        );
  }

  pub card-many : card-rise.many ≡ hi - lo
  unfolding card-rise
  card-many = refl

  -- The first d of them, counted by themselves and in the script.
  counted-in : (k d : ℕ) → lo + d ≤ hi → tally (of_kind own k) d ≡ way_count outgoing script n k (lo + d)
  unfolding way_count
  counted-in k zero h =
      let e : 0 + lo ≡ lo + 0 = omega arith in
      tally-zero (of_kind own k) ∙ sym (way-count-skip outgoing script n k 0 lo starts-before)
      ∙ ap (way_count outgoing script n k) e
  counted-in k (suc d) h =
      let kind-is = card-kind d (omega arith) in
      let here = starts-here (lo + d) (omega arith) (omega arith) in
      let rest = counted-in k d (omega arith) in
      rw (add-suc, ← add-one d)
      (⊎_elim
      (λ e. omega (
        arith,
        tally-hit (of_kind own k) d (eq-eqb (kind_in own d) k e),
        way-count-same outgoing script n k (lo + d) here (sym e ∙ kind-is),
      ))
      (λ ne. omega (
        arith,
        tally-miss (of_kind own k) d (ne_eqb (kind_in own d) k ne),
        way-count-kind outgoing script n k (lo + d) (λ q. ne (kind-is ∙ sym q)),
      ))
      (eq-or-ne (kind_in own d) k))

  -- As many of them have a kind as start at the card and have it.
  pub card-kinds : (k : ℕ) → kinds_in own k ≡ way_count outgoing script n k m
  card-kinds k =
      let top = below-le script (n + 1) m in
      let inner : lo + (hi - lo) ≡ hi = omega (arith, own-within.order) in
      let outer : hi + (m - hi) ≡ m = omega arith in
      let count = way_count outgoing script n k in
      kinds-all own card-rise k ∙ ap (tally (of_kind own k)) card-many
      ∙ counted-in k (hi - lo) (omega (arith, own-within.order))
      ∙ ap count inner ∙ sym (way-count-skip outgoing script n k hi (m - hi) starts-after) ∙ ap count outer

-- ---- by the table of starts
module _ {script starts : List ℕ} {cards links : ℕ} (s : LeavingOf script starts cards links) where
  -- The same of fewer cards.
  pub leaving-fewer : (n : ℕ) → n ≤ cards → LeavingOf script starts n links
  leaving-fewer n l = record {
    ascending = s.ascending;
    starts-of = record {
      room = omega (arith, s.starts-of.room);
      exact = λ c h. s.starts-of.exact c (omega arith);
    };
  }

  -- The links from card n lie between two starts.
  module _ (n lo hi : ℕ) (l : n < cards) (p : lo ≡ get_or starts n 0) (q : hi ≡ get_or starts (n + 1) 0) where
    pub leaving-within : LinksIn script lo hi
    leaving-within =
        part-within script links s.ascending n lo hi (p ∙ s.starts-of.exact n (omega arith))
        (q ∙ s.starts-of.exact (n + 1) (omega arith))

    pub leaving-words : take (2 + 3 * hi - (2 + 3 * lo)) (drop (2 + 3 * lo) script) ≡ card_words script n links
    leaving-words =
        part-words script links s.ascending n lo hi (p ∙ s.starts-of.exact n (omega arith))
        (q ∙ s.starts-of.exact (n + 1) (omega arith))

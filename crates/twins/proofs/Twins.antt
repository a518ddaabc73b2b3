-- Cards whose links have the same kinds.
-- SameTo      where comparing the kinds of two cards' links stands; same_more, same-done: its steps
-- MarksBelow  the table of marks has no other cards than those passed; marks-start, marks-more: its steps
-- twin-alike   two cards with as many links of each kind are twins
-- TwinsTo     the cards passed have their twins; twins-start, twins-more: its steps
-- Assumes nothing.
use Prim.Native.Nat.{ℕ, ◌+◌, ◌*◌, ◌/◌, ◌≤◌, ◌<◌}
use mathlib.Core.Path.{◌≡◌, refl, sym, ap, ◌∙◌}
use mathlib.Core.Logic.{⊎_elim}
use mathlib.Core.List.{List}
use native.Mathlib.Omega.{arith}
use native.Mathlib.Nat.{le_of_eq}
use lib.ListN.{length, get_or, set, replicate, length-set, length-replicate, get_or-replicate}
use lib.Seq.{get_or-set_same, get_or-set_other}
use lib.Dec.{eqb}
use Rattle.words.proofs.Bools.{eq-or-ne}
use Rattle.board.specs.Grid.{tally}
use Rattle.board.proofs.Tally.{tally-ext}
use Rattle.script.specs.Link.{card_words}
use Rattle.script.specs.Steps.{Ascending}
use Rattle.links.specs.Runs.{kind_in, kinds_in}
use Rattle.links.specs.Index.{LeavingOf}
use Rattle.links.proofs.Runs.{kind_at}
use Rattle.links.proofs.Leaving.{card-kinds, leaving-fewer}
use Rattle.twins.specs.Twins.{marks, TwinOf}

-- ---- comparing kinds
-- Comparing stands before a link: those before it have the same kinds.
pub record SameTo (a b : List ℕ) (at : ℕ) : Type 0 where
  pub link : ℕ
  pub place : at ≡ 1 + 3 * link
  pub same : (i : ℕ) → i < link → kind_in a i ≡ kind_in b i

module _ (a b : List ℕ) where
  -- One link more is compared.
  pub same_more : (at : ℕ) → SameTo a b at → get_or a at 0 ≡ get_or b at 0 → SameTo a b (at + 3)
  same_more at s e = record {
    link = s.link + 1;
    place = omega (arith, s.place);
    same = λ i l. ⊎_elim
        (λ (q : i ≡ s.link).
        let place : at ≡ 1 + 3 * i = omega (arith, s.place) in
        sym (kind_at a i at place) ∙ e ∙ kind_at b i at place)
        (λ ne. s.same i (omega (arith, ne)))
        (eq-or-ne i s.link);
  }

  -- Past the last link, each kind has as many of both.
  pub same-done : (at : ℕ) → SameTo a b at → length a ≡ length b → length a ≤ at → (k : ℕ) → kinds_in a k ≡
      kinds_in b k
  unfolding kinds_in
  same-done at s size end k =
      tally-ext (λ i. eqb (kind_in a i) k) (λ i. eqb (kind_in b i) k) (length a / 3)
      (λ i l. ap (λ (x : ℕ). eqb x k) (s.same i (omega (arith, s.place))))
      ∙ ap (λ (n : ℕ). tally (λ i. eqb (kind_in b i) k) (n / 3)) size

-- ---- the table of marks
-- What a mark has is 0 or one more than a card before n.
pub record MarksBelow (last : List ℕ) (n : ℕ) : Type 0 where
  pub size : length last ≡ marks
  pub each : (mark : ℕ) → mark < marks → get_or last mark 0 ≤ n

-- No card is entered yet, and one card more.
marks-start : (last : List ℕ) → last ≡ replicate marks 0 → MarksBelow last 0
marks-start last e = record {
  size = ap length e ∙ length-replicate {A = ℕ} marks 0;
  each = λ mark l. le_of_eq (ap (λ (xs : List ℕ). get_or xs mark 0) e ∙ get_or-replicate {A = ℕ} marks mark 0 0 l);
}

marks-more : (last : List ℕ) (n mark : ℕ) → mark < marks → MarksBelow last n
    → MarksBelow (set last mark (n + 1)) (n + 1)
marks-more last n mark l f = record {
  size = length-set last mark (n + 1) ∙ f.size;
  each = λ k h. ⊎_elim
      (λ (q : k ≡ mark).
      le_of_eq (ap (λ (x : ℕ). get_or (set last mark (n + 1)) x 0) q
      ∙ get_or-set_same last mark (n + 1) 0 (omega (arith, f.size))))
      (λ (ne : k ≡ mark → ⊥). omega (arith, get_or-set_other last mark k (n + 1) 0 ne, f.each k h))
      (eq-or-ne k mark);
}

-- ---- twins
-- Two cards whose links have as many of each kind are twins.
pub twin-alike : (script : List ℕ) (links : ℕ) → Ascending script links → (m n : ℕ) → m ≤ n → (a b : List ℕ)
    → a ≡ card_words script m links → b ≡ card_words script n links
    → ((k : ℕ) → kinds_in a k ≡ kinds_in b k) → TwinOf script links n m
twin-alike script links up m n h a b p q same = record {
  before = h;
  alike = λ k.
      sym (card-kinds script links up m k) ∙ rw (p, q) at (same k) ∙ card-kinds script links up n k;
}

-- ---- all twins
-- What holds before card n: the cards before it have their twins.
pub record TwinsTo (script starts : List ℕ) (cards : ℕ) (before twins last : List ℕ) (n : ℕ) : Type 0 where
  pub within : n ≤ cards
  pub size : length twins ≡ length before
  pub table : MarksBelow last n
  pub each : (links : ℕ) → LeavingOf script starts cards links → (c : ℕ) → c < n
      → TwinOf script links c (get_or twins c 0)

module _ (script starts : List ℕ) (cards : ℕ) (before : List ℕ) where
  -- No card has its twin yet, and one card more.
  pub twins-start : (last : List ℕ) → last ≡ replicate marks 0 → TwinsTo script starts cards before before last 0
  twins-start last e = record {
    within = omega arith;
    size = refl;
    table = marks-start last e;
    each = λ links s c l. absurd (omega arith);
  }

  module _ (twins last : List ℕ) (n mark m : ℕ) (t : TwinsTo script starts cards before twins last n)
      (room : cards ≤ length before) (l : n < cards) (h : mark < marks)
      (twin : (links : ℕ) → LeavingOf script starts (n + 1) links → TwinOf script links n m) where
    more-each : (links : ℕ) → LeavingOf script starts cards links → (c : ℕ) → c < n + 1
        → TwinOf script links c (get_or (set twins n m) c 0)
    more-each links s c i = ⊎_elim
        (λ (q : c ≡ n).
        rw (q, get_or-set_same twins n m 0 (omega (arith, t.size))) (twin links (leaving-fewer s (n + 1) (omega
        arith))))
        (λ (ne : c ≡ n → ⊥). rw (get_or-set_other twins n c m 0 ne) (t.each links s c (omega (arith, ne))))
        (eq-or-ne c n)

    pub twins-more : TwinsTo script starts cards before (set twins n m) (set last mark (n + 1)) (n + 1)
    twins-more = record {
      within = omega arith;
      size = length-set twins n m ∙ t.size;
      table = marks-more last n mark h t.table;
      each = more-each;
    }

-- The links of one card, three words each, which stand sorted by kind.
-- third               how many links so many words are; kinds-all: their kinds are counted over all of them
-- kinds-none, kinds-some   how many have a kind: none where no link has it, one at least
-- RunTo               the links counted of a run; run-start, run_more, run_ends: the first, one more, the whole run
-- run-counted         the first run of a kind is all that have it
-- passed_none, passed-more   no link is passed; a higher bound
-- CountedOff          where counting a kind stands; off-start, off-same, off-other, off-above, off-end: its steps
-- amount-counted, amount-listed   the count of a label
-- Assumes nothing.
use Prim.Native.Nat.{ℕ, zero, suc, ◌+◌, ◌-◌, ◌*◌, ◌/◌, ◌≤◌, ◌<◌}
use mathlib.Core.Path.{◌≡◌, refl, sym, ap, ◌∙◌, subst}
use mathlib.Core.Logic.{⊎_elim}
use mathlib.Core.Bool.{Bool, true, false}
use mathlib.Core.List.{List}
use native.Mathlib.Omega.{arith}
use native.Mathlib.Nat.{add-zero, add-suc, div-eq_of_eq-mul_right}
use native.Mathlib.Numerals.{add-one}
use lib.ListN.{length, get_or}
use lib.Dec.{eqb}
use borrow.Author.Tests.{lt-ltb, le-ltb, eq-eqb, ne_eqb}
use Rattle.words.specs.Limits.{max_labels, max_links}
use Rattle.words.proofs.Bools.{le-or-lt, last-or-below}
use Rattle.board.specs.Grid.{tally}
use Rattle.board.proofs.Tally.{tally-hit, tally-miss, tally-le, tally-none, tally-pos}
use Rattle.links.specs.Runs.{kind_in, kinds_in, amount, KindsRise, KindsPassed, RunOf, RunAsked, CountOf}

-- ---- how many have a kind
-- Three words are a link.
third : (links : List ℕ) (many : ℕ) → length links ≡ 3 * many → length links / 3 ≡ many
third links many size = div-eq_of_eq-mul_right (omega arith) size

-- Link i has a kind.
abbrev pub of_kind : List ℕ → ℕ → ℕ → Bool
of_kind links kind i = eqb (kind_in links i) kind

-- The links of a kind are counted over all links.
pub kinds-all : (links : List ℕ) (r : KindsRise links) (kind : ℕ)
    → kinds_in links kind ≡ tally (of_kind links kind) r.many
unfolding kinds_in
kinds-all links r kind = ap (tally (of_kind links kind)) (third links r.many r.size)

-- None where no link has the kind, at least one where one has it, and no more than a script has.
pub kinds-none : (links : List ℕ) (r : KindsRise links) (kind : ℕ)
    → ((i : ℕ) → i < r.many → kind_in links i ≡ kind → ⊥) → kinds_in links kind ≡ 0
kinds-none links r kind none_has =
    kinds-all links r kind
    ∙ tally-none (of_kind links kind) r.many (λ i l. ne_eqb (kind_in links i) kind (none_has i l))

pub kinds-some : (links : List ℕ) (r : KindsRise links) (i : ℕ) → i < r.many
    → 1 ≤ kinds_in links (kind_in links i)
kinds-some links r i l =
    let kind = kind_in links i in
    omega (arith, kinds-all links r kind, tally-pos (of_kind links kind) r.many i l (eq-eqb kind kind refl))

-- ---- a run of one kind
-- Of numbers side by side none passes a test, or each does.
tally-past : (p : ℕ → Bool) (a d : ℕ) → ((i : ℕ) → a ≤ i → i < a + d → p i ≡ false) → tally p (a + d) ≡ tally p a
tally-past p a zero f = rw add-zero refl
tally-past p a (suc d) f =
    rw (add-suc, ← add-one)
    (tally-miss p (a + d) (f (a + d) (omega arith) (omega arith)) ∙ tally-past p a d (λ i l b. f i l (omega arith)))

tally-row : (p : ℕ → Bool) (a d : ℕ) → ((i : ℕ) → a ≤ i → i < a + d → p i ≡ true) → tally p (a + d) ≡ tally p a + d
tally-row p a zero f = rw (add-zero a) (omega arith)
tally-row p a (suc d) f =
    rw (add-suc a d, ← add-one (a + d))
    (omega (
      arith,
      tally-hit p (a + d) (f (a + d) (omega arith) (omega arith)),
      tally-row p a d (λ i l b. f i l (omega arith)),
    ))

-- The kind's word of link i stands at a place.
pub kind_at : (links : List ℕ) (i at : ℕ) → at ≡ 1 + 3 * i → get_or links at 0 ≡ kind_in links i
unfolding kind_in
kind_at links i at e = ap (λ (x : ℕ). get_or links x 0) e

-- The links from link `first` on, so many of them, are of a kind.
pub record RunTo (links : List ℕ) (first kind count : ℕ) : Type 0 where
  pub some : 1 ≤ count
  pub inside : 3 * (first + count) ≤ length links
  pub same : (i : ℕ) → first ≤ i → i < first + count → kind_in links i ≡ kind

-- The first link, one link more, and the end: the links are all passed, or the next one is of another kind.
pub run-start : {links : List ℕ} {at kind : ℕ} → RunAsked links at kind
    → (first : ℕ) → at ≡ 1 + 3 * first → RunTo links first kind 1
run-start {links} asked first e = record {
  some = omega arith;
  inside = omega (arith, asked.rise.size, asked.inside);
  same = λ i l b. let q : i ≡ asked.first = omega (arith, asked.place) in ap (kind_in links) q ∙ asked.kind-is;
}

pub run_more : {links : List ℕ} {first kind count : ℕ} → KindsRise links → RunTo links first kind count
    → 3 * (first + count) < length links → kind_in links (first + count) ≡ kind → RunTo links first kind (count + 1)
run_more {links} {first} {count = count} rise run l e = record {
  some = omega arith;
  inside = omega (arith, rise.size);
  same = λ i a b. ⊎_elim
      (λ h. let q : i ≡ first + count = omega arith in ap (kind_in links) q ∙ e)
      (λ h. run.same i a h)
      (le-or-lt (first + count) i);
}

pub run_ends : {links : List ℕ} {first kind count : ℕ} → KindsRise links → RunTo links first kind count
    → (3 * (first + count) < length links → kind_in links (first + count) ≡ kind → ⊥) → RunOf links first kind count
run_ends {links} {first} {kind} {count} rise run ends = record {
  some = run.some;
  inside = run.inside;
  same = run.same;
  other = λ l.
      let up = rise.rising first (first + count) (omega arith) (omega (arith, rise.size)) in
      let low = run.same first (omega arith) (omega (arith, run.some)) in
      ⊎_elim (λ h. absurd (ends l (omega arith))) (λ h. h) (le-or-lt (kind_in links (first + count)) kind);
}

-- Where a run's kind is above those of all links before it, it is all of its kind.
pub run-counted : (links : List ℕ) → KindsRise links → (first kind count : ℕ) → RunOf links first kind count
    → ((i : ℕ) → i < first → kind_in links i < kind) → kinds_in links kind ≡ count
run-counted links r first kind count run before =
    let p = of_kind links kind in
    let end = first + count in
    let e : end + (r.many - end) ≡ r.many = omega (arith, run.inside, r.size) in
    let none_before = tally-none p first (λ i l. ne_eqb (kind_in links i) kind (λ q. omega (arith, before i l))) in
    let row = tally-row p first count (λ i l b. eq-eqb (kind_in links i) kind (run.same i l b)) in
    let after : (i : ℕ) → end ≤ i → i < end + (r.many - end) → p i ≡ false =
    λ i l b.
    let next = run.other (omega (arith, r.size)) in
    ne_eqb (kind_in links i) kind (λ q. omega (arith, next, r.rising end i l (omega arith))) in
    let past = tally-past p end (r.many - end) after in
    kinds-all links r kind ∙ sym (ap (tally p) e) ∙ omega (arith, past, row, none_before)

-- ---- counting a kind off
-- No link is passed yet.
pub passed_none : (links : List ℕ) (bound next : ℕ) → next ≡ 1 → KindsPassed links bound next
passed_none links bound next e =
    record { link = 0; place = e; inside = omega arith; under = λ i l. absurd (omega arith) }

-- What was passed has kinds below any higher number too.
abbrev pub passed-more : (links : List ℕ) (low high next : ℕ) → low ≤ high → KindsPassed links low next
    → KindsPassed links high next
passed-more links low high next h p = record {
  link = p.link;
  place = p.place;
  inside = p.inside;
  under = λ i l. omega (arith, p.under i l);
}

-- Counting stands before a link: no kind before it is above, and so many of those have the kind.
pub record CountedOff (links : List ℕ) (kind found at : ℕ) : Type 0 where
  pub passed : KindsPassed links (kind + 1) at
  pub counted : found ≡ tally (of_kind links kind) passed.link

-- Where only lower kinds are passed none is counted.
pub off-start : (links : List ℕ) (kind at : ℕ) → KindsPassed links kind at → CountedOff links kind 0 at
off-start links kind at p = record {
  passed = passed-more links kind (kind + 1) at (omega arith) p;
  counted = sym (tally-none (of_kind links kind) p.link
      (λ i l. ne_eqb (kind_in links i) kind (λ e. omega (arith, p.under i l))));
}

module _ {links : List ℕ} {kind found at : ℕ} (rise : KindsRise links) (off : CountedOff links kind found at) where
  -- one link more is passed
  abbrev passed-next : at < length links → get_or links at 0 ≤ kind → KindsPassed links (kind + 1) (at + 3)
  passed-next l h =
      let p = off.passed in
      let here = kind_at links p.link at p.place in
      record {
        link = p.link + 1;
        place = omega (arith, p.place);
        inside = omega (arith, p.place, rise.size);
        under = λ i b. ⊎_elim
            (λ (e : i ≡ p.link). rw e (omega (arith, here)))
            (λ below. p.under i below)
            (last-or-below (rw (add-one p.link) at b));
      }

  -- One link more, which has the kind, or a lower one.
  pub off-same : at < length links → get_or links at 0 ≡ kind → CountedOff links kind (found + 1) (at + 3)
  off-same l e =
      let i = off.passed.link in
      let hit = eq-eqb (kind_in links i) kind (sym (kind_at links i at off.passed.place) ∙ e) in
      record {
        passed = passed-next l (omega arith);
        counted = omega (arith, off.counted, tally-hit (of_kind links kind) i hit);
      }

  pub off-other : at < length links → get_or links at 0 < kind → CountedOff links kind found (at + 3)
  off-other l h =
      let i = off.passed.link in
      let here = kind_at links i at off.passed.place in
      let miss = ne_eqb (kind_in links i) kind (λ q. omega (arith, here)) in
      record {
        passed = passed-next l (omega arith);
        counted = omega (arith, off.counted, tally-miss (of_kind links kind) i miss);
      }

  -- The count is a word.
  pub off_small : found ≤ max_links
  off_small =
      omega (
        arith,
        off.counted,
        tally-le (of_kind links kind) off.passed.link,
        off.passed.inside,
        rise.size,
        rise.few,
      )

  -- At a link whose kind is above all are found.
  pub off-above : at < length links → kind < get_or links at 0 → found ≡ kinds_in links kind
  off-above l h =
      let i = off.passed.link in
      let p = of_kind links kind in
      let e : i + (rise.many - i) ≡ rise.many = omega (arith, off.passed.inside, rise.size) in
      let after : (j : ℕ) → i ≤ j → j < i + (rise.many - i) → p j ≡ false =
      λ j a b.
      let up = rise.rising i j a (omega arith) in
      ne_eqb (kind_in links j) kind (λ q. omega (arith, kind_at links i at off.passed.place)) in
      off.counted ∙ sym (tally-past p i (rise.many - i) after) ∙ ap (tally p) e ∙ sym (kinds-all links rise kind)

  -- So are they past the last link, at its end.
  pub off-end : length links ≤ at
      → CountOf links kind (record { next = length links + 1; kind = kind; count = found })
  off-end l =
      let e : off.passed.link ≡ rise.many = omega (arith, off.passed.place, off.passed.inside, rise.size) in
      let end : at ≡ length links + 1 = omega (arith, off.passed.place, off.passed.inside, rise.size) in record {
        exact = off.counted ∙ ap (tally (of_kind links kind)) e ∙ sym (kinds-all links rise kind);
        passed = subst (KindsPassed links (kind + 1)) end off.passed;
      }

-- ---- the count of a label
-- It is counted off the links or listed, and is a word.
pub amount-counted : (links listed : List ℕ) (k : ℕ) → k < max_labels - length listed
    → amount links listed k ≡ kinds_in links k
unfolding amount
amount-counted links listed k l = rw (lt-ltb k (max_labels - length listed) l) refl

pub amount-listed : (links listed : List ℕ) (k : ℕ) → max_labels - length listed ≤ k
    → amount links listed k ≡ get_or listed (k - (max_labels - length listed)) 0
unfolding amount
amount-listed links listed k l = rw (le-ltb k (max_labels - length listed) l) refl

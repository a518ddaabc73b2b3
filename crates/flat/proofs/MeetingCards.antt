-- Meeting the interval of a flat part, label by label.
--   link-none, link-some           no link at a place, or one that is met: a `return` of meet_link each
--   demand-none, demand-few         no link needs to be there where there is none; it counts 1 at most
--   one-missing                    a link is missing: a `return` of all_met
--   met-none, met_next, met-skip   no label is met yet; the label at the bound; labels that count 0
--   met-alike, met-few             other counts that are the same below the bound; no more links than labels
--   flat-at                        what lies in a flat part's interval, by the places of its links
--   interval-met                   all labels are met, and a missing link is missed: it is the part's interval
--   place-named, named-place       a label has a place exactly where the part names it
--   unnamed-counts, named-counts   some kind of a card's links has no place; each of them has one
-- Assumes nothing.
use Prim.Native.Nat.{ℕ, zero, suc, ◌+◌, ◌-◌, ◌*◌, ◌≤◌, ◌<◌}
use mathlib.Core.Path.{◌≡◌, refl, sym, ◌∙◌, ap, ap₂, subst}
use mathlib.Core.Logic.{◌⊎◌, inl, inr, ⊎_elim, ◌↔◌}
use mathlib.Core.Bool.{Bool, true, false, ◌&&◌, not}
use mathlib.Core.List.{List}
use native.Mathlib.Omega.{arith}
use native.Mathlib.Nat.{add-zero, add-suc}
use native.Mathlib.Numerals.{add-one}
use lib.ListN.{length, get_or, get_or-eq_default}
use lib.Dec.{ltb, eqb}
use borrow.Author.Tests.{ltb-true, ltb-false, lt-ltb, eq-eqb, eqb-true}
use Rattle.words.specs.Limits.{max_kinds, max_labels}
use Rattle.words.proofs.Bools.{never_both, is_false, is_true, and_first, and_second, and_both, or_cases, or_left}
use Rattle.words.proofs.Bools.{or_right, bool_case, le-or-lt, eq-or-ne, last-or-below, not_of_false, false_of_not}
use Rattle.bags.specs.Part.{Part, Names, names}
use Rattle.bags.specs.Interval.{within, In, meet, link_interval, interval, others_zero}
use Rattle.bags.specs.Span.{top, view}
use Rattle.bags.specs.declared.Span.{Span}
use Rattle.bags.proofs.Naming.{names-exact}
use Rattle.bags.proofs.Intervals.{in_meet}
use Rattle.bags.proofs.Decide.{others-at, others-all}
use Rattle.bags.proofs.Spans.{span, view-from, view-within}
use Rattle.bags.proofs.Flatness.{proper-same, view-proper, has_named, named-has, flat_in}
use Rattle.bags.proofs.Zeros.{link-zero}
use Rattle.bags.proofs.Exact.{part-proper}
use Rattle.board.specs.Grid.{bit, tally}
use Rattle.board.proofs.Tally.{bit-true, bit-false, tally-zero, tally-hit, tally-miss, tally-le, tally-lt, tally-ext}
use Rattle.board.proofs.Tally.{Lowest, none-or-lowest}
use Rattle.links.specs.Runs.{kind_in, amount, KindsRise}
use Rattle.links.proofs.Runs.{kinds-none, kinds-some, amount-counted}
use Rattle.flat.specs.Places.{low_at, high_at, must, Surveyed}
use Rattle.flat.specs.Meeting.{KindsUnder, link_at, demanded, MetBelow, LinkMet, AllMet}

-- ---- one link
pub link-none : (words : List ℕ) (place count : ℕ) (before : Span) → place ≡ 0
    → LinkMet words place count before before
link-none words place count before e = record {
  numbers = λ i. (λ h. (h, λ p. absurd (omega arith)), λ h. h.0);
}

pub link-some : (words : List ℕ) (place count : ℕ) (before one after : Span)
    → view one ≡ link_at words place count → view after ≡ meet (view before) (view one) → 0 < place
    → LinkMet words place count before after
link-some words place count before one after e f p = record {
  numbers = λ i.
      let both = in_meet (view before) (view one) i in (
        λ h. let g = both.0 (subst (In i) f h) in (g.0, λ q. subst (In i) e g.1),
        λ h. subst (In i) (sym f) (both.1 (h.0, subst (In i) (sym e) (h.1 p))),
      );
}

pub demand-none : (words : List ℕ) (place : ℕ) → place ≡ 0 → 0 ≡ demanded words place
unfolding demanded bit
demand-none words place e = rw e refl

pub demand-few : (words : List ℕ) (place : ℕ) → demanded words place ≤ 1
unfolding demanded
demand-few words place = bool_case (ltb 0 place && ltb 0 (low_at words place))
    (λ e. omega (arith, bit-true (ltb 0 place && ltb 0 (low_at words place)) e))
    (λ e. omega (arith, bit-false (ltb 0 place && ltb 0 (low_at words place)) e))

demand-must : (words places : List ℕ) (k : ℕ) → demanded words (get_or places k 0) ≡ bit (must words places k)
unfolding demanded must
demand-must words places k = refl

pub one-missing : (needed found : ℕ) (before after : Span) → view after ≡ meet (view before) (view (span 0 0))
    → found < needed → AllMet needed found before after
one-missing needed found before after f l =
    let e : view (span 0 0) ≡ within 0 0 =
    view-within (span 0 0) (omega arith) (λ z. let y : 0 ≡ top = z in omega arith) in
    record {
      numbers = λ i.
          let both = in_meet (view before) (view (span 0 0)) i in (
            λ h.
                let g = both.0 (subst (In i) f h) in
                let z = subst (In i) e g.1 in
                (g.0, λ q. omega arith),
            λ h.
                let z : i ≡ 0 = h.1 l in
                subst (In i) (sym f) (both.1 (h.0, subst (In i) (sym e) (omega arith))),
          );
    }

-- ---- the bound
-- The label has a link that must be there, and counts more than 0.
abbrev there : List ℕ → List ℕ → (ℕ → ℕ) → ℕ → Bool
there words places w k = must words places k && ltb 0 (w k)

tally-next : (p : ℕ → Bool) (n : ℕ) → tally p (n + 1) ≡ tally p n + bit (p n)
tally-next p n = bool_case (p n)
    (λ e. omega (arith, tally-hit p n e, bit-true (p n) e))
    (λ e. omega (arith, tally-miss p n e, bit-false (p n) e))

pub met-none : (words places : List ℕ) (w : ℕ → ℕ) → MetBelow words places w 0 (span 0 top) 0
met-none words places w = record {
  numbers = λ i. (
    λ h k l. absurd (omega arith),
    λ h. subst (In i) (sym (view-from (span 0 top) (omega arith) refl)) (omega arith),
  );
  count = sym (tally-zero (there words places w));
}

module _ {words places : List ℕ} {w : ℕ → ℕ} {bound : ℕ} {before : Span} {found : ℕ}
    (met : MetBelow words places w bound before found) where
  pub met-few : found ≤ bound
  met-few = omega (arith, met.count, tally-le (there words places w) bound)

  -- The label at the bound has its place if it counts more than 0, and none else.
  module _ (place count : ℕ) (counts : w bound ≡ count) (some : 0 < count → place ≡ get_or places bound 0)
      (none : count ≡ 0 → place ≡ 0) where
    next-there : demanded words place ≡ bit (there words places w bound)
    next-there = ⊎_elim
        (λ e. sym (demand-none words place (none e)) ∙ sym (bit-false (there words places w bound) (is_false (λ t.
        let h = ltb-true 0 (w bound) (and_second (must words places bound) (ltb 0 (w bound)) t) in omega arith))))
        (λ ne.
        let l : 0 < count = omega arith in
        ap (demanded words) (some l) ∙ demand-must words places bound ∙ ap bit (kept (must words places bound) l))
        (eq-or-ne count 0)
      where
        kept : (t : Bool) → 0 < count → t ≡ t && ltb 0 (w bound)
        kept true l = sym (lt-ltb 0 (w bound) (omega arith))
        kept false l = refl

    pub met_next : (after : Span) → LinkMet words place count before after
        → MetBelow words places w (bound + 1) after (found + demanded words place)
    met_next after link = record {
      numbers = λ i. (
        λ h k l pl pw.
            let (a, b) = (link.numbers i).0 h in
            ⊎_elim
            (λ (e : k ≡ bound).
            let more : 0 < count = omega (arith, ap w e) in
            let at : get_or places k 0 ≡ place = ap (λ (x : ℕ). get_or places x 0) e ∙ sym (some more) in
            subst (In i) (sym (ap₂ (link_at words) at (ap w e ∙ counts))) (b (omega arith)))
            (λ m. (met.numbers i).0 a k m pl pw)
            (last-or-below {i = k} {n = bound} (omega arith)),
        λ h. (link.numbers i).1 (
          (met.numbers i).1 (λ k l. h k (omega arith)),
          λ pp.
              let more : 0 < count = ⊎_elim (λ e. omega (arith, none e)) (λ ne. omega arith) (eq-or-ne count 0) in
              let at : get_or places bound 0 ≡ place = sym (some more) in
              subst (In i) (ap₂ (link_at words) at counts) (h bound (omega arith) (omega arith) (omega arith)),
        ),
      );
      count = omega (arith, met.count, tally-next (there words places w) bound, next-there);
    }

met-pass : {words places : List ℕ} {w : ℕ → ℕ} {bound : ℕ} {before : Span} {found : ℕ}
    → MetBelow words places w bound before found → w bound ≡ 0 → MetBelow words places w (bound + 1) before found
met-pass {words} {places} {w} {bound} {before} {found} met e =
    let none = demand-none words 0 refl in
    let same : found + demanded words 0 ≡ found = omega arith in
    subst (MetBelow words places w (bound + 1) before) same
    (met_next met 0 0 e (λ l. absurd (omega arith)) (λ z. refl) before (link-none words 0 0 before refl))

met-passes : {words places : List ℕ} {w : ℕ → ℕ} {bound : ℕ} {before : Span} {found : ℕ} (d : ℕ)
    → MetBelow words places w bound before found → ((k : ℕ) → bound ≤ k → k < bound + d → w k ≡ 0)
    → MetBelow words places w (bound + d) before found
met-passes zero met f = rw add-zero met
met-passes {bound = bound} (suc d) met f =
    rw (add-suc, ← add-one)
    (met-pass (met-passes d met (λ k l b. f k l (omega arith))) (f (bound + d) (omega arith) (omega arith)))

pub met-skip : {words places : List ℕ} {w : ℕ → ℕ} {bound : ℕ} {before : Span} {found : ℕ} (next : ℕ) → bound ≤ next
    → MetBelow words places w bound before found → ((k : ℕ) → bound ≤ k → k < next → w k ≡ 0)
    → MetBelow words places w next before found
met-skip {words} {places} {w} {bound} {before} {found} next l met f =
    let e : bound + (next - bound) ≡ next = omega arith in
    subst (λ (b : ℕ). MetBelow words places w b before found) e
    (met-passes (next - bound) met (λ k a b. f k a (omega arith)))

pub met-alike : {words places : List ℕ} {v w : ℕ → ℕ} {bound : ℕ} {before : Span} {found : ℕ}
    → MetBelow words places v bound before found → ((k : ℕ) → k < bound → w k ≡ v k)
    → MetBelow words places w bound before found
met-alike {words} {places} {v} {w} {bound} met f = record {
  numbers = λ i. (
    λ h k l pl pw.
        subst (In i) (sym (ap (link_at words (get_or places k 0)) (f k l)))
        ((met.numbers i).0 h k l pl (omega (arith, f k l))),
    λ h. (met.numbers i).1 (λ k l pl pv.
        subst (In i) (ap (link_at words (get_or places k 0)) (f k l)) (h k l pl (omega (arith, f k l)))),
  );
  count = met.count ∙ tally-ext (there words places v) (there words places w) bound
      (λ k l. ap (λ (x : ℕ). must words places k && ltb 0 x) (sym (f k l)));
}

-- ---- all labels
must-place : (words places : List ℕ) (k : ℕ) → must words places k ≡ true → 0 < get_or places k 0
unfolding must
must-place words places k e =
    ltb-true 0 (get_or places k 0) (and_first (ltb 0 (get_or places k 0)) (ltb 0 (low_at words (get_or places k 0))) e)

must-low : (words places : List ℕ) (k : ℕ) → must words places k ≡ true → 0 < low_at words (get_or places k 0)
unfolding must
must-low words places k e =
    let low = low_at words (get_or places k 0) in
    ltb-true 0 low (and_second (ltb 0 (get_or places k 0)) (ltb 0 low) e)

low-must : (words places : List ℕ) (k : ℕ) → 0 < get_or places k 0 → 0 < low_at words (get_or places k 0)
    → must words places k ≡ true
unfolding must
low-must words places k p l =
    let low = low_at words (get_or places k 0) in
    and_both (ltb 0 (get_or places k 0)) (ltb 0 low) (lt-ltb 0 (get_or places k 0) p) (lt-ltb 0 low l)

-- A label that counts 0: any number, or only 0 if its link must be there.
zero-at : (words : List ℕ) (place count i : ℕ) → count ≡ 0
    → In i (link_at words place count) ↔ ((low_at words place ≡ 0) ⊎ (i ≡ 0))
unfolding link_at
zero-at words place count i e = rw e (link-zero (low_at words place) (high_at words place) i)

module _ {words : List ℕ} {p : Part} {places : List ℕ} {needed : ℕ} (s : Surveyed words p places needed) where
  place-below : (k : ℕ) → 0 < get_or places k 0 → k < max_labels
  place-below k l = ⊎_elim
      (λ past. absurd (omega (arith, get_or-eq_default places 0 {n = k} (omega (arith, s.placed.full)))))
      (λ b. b)
      (le-or-lt max_labels k)

  flat-at : (w : ℕ → ℕ) (i : ℕ)
      → In i (interval p w) ↔ ((k : ℕ) → 0 < get_or places k 0 → In i (link_at words (get_or places k 0) (w k)))
  unfolding link_at
  flat-at w i = (
    λ h k l. (flat_in p s.flat w i).0 h k _ _ ((s.links k _ _).1 (l, refl, refl)),
    λ h. (flat_in p s.flat w i).1 (λ k low high has.
        let (l, e, f) = (s.links k low high).0 has in
        subst (In i) (sym (ap₂ (link_interval (w k)) e f)) (h k l)),
  )

  module _ (w : ℕ → ℕ) (before : Span) (found : ℕ) (met : MetBelow words places w max_labels before found) where
    -- A link that must be there and counts 0 is one that is not found.
    missed : (k : ℕ) → w k ≡ 0 → must words places k ≡ true → found < needed
    missed k e m = omega (
      arith,
      met.count,
      s.count,
      tally-lt (there words places w) (must words places) max_labels k (place-below k (must-place words places k m))
          (is_false (λ t. let h = ltb-true 0 (w k) (and_second (must words places k) (ltb 0 (w k)) t) in omega arith))
          m
          (λ j l t. and_first (must words places j) (ltb 0 (w j)) t),
    )

    -- Where fewer are found there is one.
    missing : found < needed → (k : ℕ) × (w k ≡ 0) × (must words places k ≡ true)
    missing l = by-lowest (none-or-lowest lacks max_labels)
      where
        lacks : ℕ → Bool
        lacks k = must words places k && not (ltb 0 (w k))

        kept : (s t : Bool) → s && not t ≡ false → s && t ≡ s
        kept true t e = is_true (λ f. never_both (not_of_false f) e)
        kept false t e = refl

        by-lowest : ((k : ℕ) → k < max_labels → lacks k ≡ false) ⊎ Lowest lacks max_labels
            → (k : ℕ) × (w k ≡ 0) × (must words places k ≡ true)
        by-lowest (inl f) = absurd (omega (
          arith,
          met.count,
          s.count,
          tally-ext (there words places w) (must words places) max_labels
              (λ k b. kept (must words places k) (ltb 0 (w k)) (f k b)),
        ))
        by-lowest (inr r) =
            let k = r.number in
            let m = and_first (must words places k) (not (ltb 0 (w k))) r.passes in
            let t = and_second (must words places k) (not (ltb 0 (w k))) r.passes in
            let z = ltb-false 0 (w k) (false_of_not t) in
            (k, omega arith, m)

    pub interval-met : (after : Span) → AllMet needed found before after → view after ≡ interval p w
    interval-met after left =
        proper-same (view after) (interval p w) (view-proper after) (part-proper w p) (λ i. (
          λ h. (flat-at w i).1 (λ k l. let (a, b) = (left.numbers i).0 h in by_count i a b k l (eq-or-ne (w k) 0)),
          λ h.
              (left.numbers i).1 (
                (met.numbers i).1 (λ k b l pw. (flat-at w i).0 h k l),
                λ few.
                    let (k, e, m) = missing few in
                    let g = (flat-at w i).0 h k (must-place words places k m) in
                    ⊎_elim (λ low. absurd (omega (arith, must-low words places k m))) (λ z. z)
                    ((zero-at words (get_or places k 0) (w k) i e).0 g),
              ),
        ))
      where
        by_count : (i : ℕ) → In i (view before) → (found < needed → i ≡ 0) → (k : ℕ) → 0 < get_or places k 0
            → (w k ≡ 0) ⊎ (w k ≡ 0 → ⊥) → In i (link_at words (get_or places k 0) (w k))
        by_count i a b k l (inr ne) = (met.numbers i).0 a k (place-below k l) l (omega arith)
        by_count i a b k l (inl e) =
            (zero-at words (get_or places k 0) (w k) i e).1
            (⊎_elim (λ low. inl low) (λ ne. inr (b (missed k e (low-must words places k l (omega arith)))))
            (eq-or-ne (low_at words (get_or places k 0)) 0))

  -- ---- names
  place-named : (k : ℕ) → 0 < get_or places k 0 → Names p k
  place-named k l = has_named p k _ _ ((s.links k _ _).1 (l, refl, refl))

  named-place : (k : ℕ) → Names p k → 0 < get_or places k 0
  named-place k n = let (low, high, has) = named-has p k n in ((s.links k low high).0 has).0

  module _ (links arriving : List ℕ) (rise : KindsRise links) (few : length arriving ≤ max_kinds) (kinds : ℕ)
      (under : KindsUnder links kinds) where
    pub unnamed-counts : (i : ℕ) → 3 * i < length links → get_or places (kind_in links i) 0 ≡ 0
        → others_zero kinds p (amount links arriving) ≡ false
    unnamed-counts i l e =
        let w = amount links arriving in
        let k = kind_in links i in
        let b : k < kinds = under.below i l in
        is_false (λ t. ⊎_elim
        (λ n. omega (arith, named-place k ((names-exact p k).0 n)))
        (λ z. omega (
          arith,
          eqb-true (w k) 0 z,
          amount-counted links arriving k (omega (arith, under.few)),
          kinds-some links rise i (omega (arith, rise.size)),
        ))
        (or_cases (names p k) (eqb (w k) 0) (others-at p w kinds t k b)))

    pub named-counts : ((i : ℕ) → 3 * i < length links → 0 < get_or places (kind_in links i) 0)
        → others_zero kinds p (amount links arriving) ≡ true
    named-counts each =
        let w = amount links arriving in
        others-all p w kinds (λ k b. bool_case (names p k)
        (λ n. or_left (names p k) (eqb (w k) 0) n)
        (λ n. or_right (names p k) (eqb (w k) 0) (eq-eqb (w k) 0 (
        amount-counted links arriving k (omega (arith, under.few))
        ∙ kinds-none links rise k (λ i l e.
        let h = place-named (kind_in links i) (each i (omega (arith, rise.size))) in
        never_both ((names-exact p k).1 (subst (Names p) e h)) n)))))

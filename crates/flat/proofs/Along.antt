-- Going along the links from a card, run by run, and then along the counts of the last labels.
--   Walked                      where going along the links stands; walked_start: before the first link
--   walked-kind, walked-asked   the next link's kind is an outgoing one, and its run can be counted
--   walked-few                  how long its run is
--   walked-unnamed              its kind has no place, and the shape is closed
--   walked_next, walked-done    one run more; past the last link
--   leaving-met                 the labels before the last ones are met
--   Arrived                     where going along the counts stands; arrived-start: before the first
--   arrived-next, arrived-done  one count more; past the last
--   leaving-asked, arriving-asked   what the two ask, from what is asked for a card
--   card-unnamed, card-met      what the links of a card come to: a `return` of meet_card each
-- Assumes nothing.
use Prim.Native.Nat.{ℕ, ◌+◌, ◌-◌, ◌*◌, ◌≤◌, ◌<◌}
use mathlib.Core.Path.{◌≡◌, refl, sym, ◌∙◌, ap, subst}
use mathlib.Core.Logic.{⊎_elim}
use mathlib.Core.Bool.{Bool, false}
use mathlib.Core.List.{List}
use native.Mathlib.Omega.{arith}
use native.Mathlib.Nat.{add-zero}
use lib.ListN.{length, get_or}
use Rattle.std.specs.Prelude.{Some, None}
use Rattle.words.specs.Limits.{max_kinds, max_labels, max_links}
use Rattle.words.proofs.Bools.{le-or-lt, bool_case, or_left, or_right}
use Rattle.bags.specs.Part.{Part}
use Rattle.bags.specs.Interval.{others_zero}
use Rattle.bags.specs.Span.{top}
use Rattle.bags.specs.declared.Span.{Span}
use Rattle.bags.proofs.Spans.{span}
use Rattle.links.specs.Runs.{kind_in, kinds_in, amount, RunOf, RunAsked}
use Rattle.links.proofs.Runs.{kind_at, kinds-none, run-counted, amount-counted, amount-listed}
use Rattle.flat.specs.Places.{Surveyed}
use Rattle.flat.specs.Meeting.{MeetAsked, KindsUnder, MetAs, demanded, MetBelow, LinkMet, AllMet, LeavingAsked}
use Rattle.flat.specs.Meeting.{LeavingAs, ArrivingAsked, ArrivingAs, LastLabels}
use Rattle.flat.specs.declared.meet.Found.{Found}
use Rattle.flat.proofs.MeetingCards.{demand-few, met-none, met_next, met-skip, met-alike, met-few, interval-met}
use Rattle.flat.proofs.MeetingCards.{unnamed-counts, named-counts}

-- Going along the links stands before a link: those before it have kinds below the bound, the others have not, and the
-- labels below it are met. A closed shape has a link for each kind passed.
pub record Walked (words places : List ℕ) (is_open : Bool) (links : List ℕ) (at : ℕ) (before : Span) (found : ℕ)
    : Type 0 where
  pub link : ℕ
  pub place : at ≡ 1 + 3 * link
  pub inside : 3 * link ≤ length links
  pub bound : ℕ
  pub outgoing : bound ≤ max_kinds
  pub below : (i : ℕ) → i < link → kind_in links i < bound
  pub above : (i : ℕ) → link ≤ i → 3 * i < length links → bound ≤ kind_in links i
  pub met : MetBelow words places (kinds_in links) bound before found
  pub named : is_open ≡ false → (i : ℕ) → i < link → 0 < get_or places (kind_in links i) 0

pub walked_start : (words places : List ℕ) (is_open : Bool) (links : List ℕ)
    → Walked words places is_open links 1 (span 0 top) 0
walked_start words places is_open links = record {
  link = 0;
  place = refl;
  inside = omega arith;
  bound = 0;
  outgoing = omega arith;
  below = λ i l. absurd (omega arith);
  above = λ i l m. omega arith;
  met = met-none words places (kinds_in links);
  named = λ shut i l. absurd (omega arith);
}

module _ {words places : List ℕ} {is_open : Bool} {links : List ℕ} {at : ℕ} {before : Span} {found : ℕ}
    (asked : LeavingAsked words places links) (walked : Walked words places is_open links at before found) where
  -- The kind of the next link.
  module _ (more : at < length links) (kind : ℕ) (kind-is : kind ≡ get_or links at 0) where
    kind-here : kind_in links walked.link ≡ kind
    kind-here = sym (kind_at links walked.link at walked.place) ∙ sym kind-is

    pub walked-kind : kind < max_kinds
    walked-kind =
        omega (arith, kind-here, asked.leaving walked.link (omega (arith, walked.place, asked.rise.size)))

    pub walked-asked : RunAsked links at kind
    walked-asked = record {
      rise = asked.rise;
      first = walked.link;
      place = walked.place;
      inside = more;
      kind-is = kind-here;
    }

    module _ (place : ℕ) (place_is : place ≡ get_or places kind 0) where
      pub walked-unnamed : is_open ≡ false → place ≡ 0 → LeavingAs words places is_open links None
      walked-unnamed shut e = (
        shut,
        (
          walked.link,
          omega (arith, walked.place, asked.rise.size),
          ap (λ (k : ℕ). get_or places k 0) kind-here ∙ sym place_is ∙ e,
        ),
      )

      -- The run of its links.
      module _ (count : ℕ) (counted : (first : ℕ) → at ≡ 1 + 3 * first → RunOf links first kind count) where
        run : RunOf links walked.link kind count
        run = counted walked.link walked.place

        pub walked-few : (count ≤ max_links) × (1 ≤ count) × (at + 3 * count ≤ 1 + length links)
        walked-few = omega (arith, run.some, run.inside, walked.place, asked.rise.size, asked.rise.few)

        rising : (i j : ℕ) → i ≤ j → 3 * j < length links → kind_in links i ≤ kind_in links j
        rising i j l m = asked.rise.rising i j l (omega (arith, asked.rise.size))

        pub walked_next : (after : Span) → (is_open ≡ false → 0 < place) → LinkMet words place count before after
            → Walked words places is_open links (at + 3 * count) after (found + demanded words place)
        walked_next after named link =
            let here = walked.link in
            let some = run.some in
            let size = asked.rise.size in
            let up : walked.bound ≤ kind =
            omega (arith, kind-here, walked.above here (omega arith) (omega (arith, walked.place))) in
            let absent : (k : ℕ) → walked.bound ≤ k → k < kind → kinds_in links k ≡ 0 =
            λ k a b. kinds-none links asked.rise k (λ i l e. ⊎_elim
            (λ h. omega (arith, kind-here, rising here i h (omega arith)))
            (λ h. omega (arith, walked.below i h))
            (le-or-lt here i)) in
            let counts : kinds_in links kind ≡ count =
            run-counted links asked.rise here kind count run (λ i l. omega (arith, walked.below i l)) in
            record {
              link = here + count;
              place = omega (arith, walked.place);
              inside = run.inside;
              bound = kind + 1;
              outgoing = omega (arith, walked-kind);
              below = λ i l. ⊎_elim
                  (λ h. omega (arith, run.same i h l)) (λ h. omega (arith, walked.below i h)) (le-or-lt here i);
              above = λ i l m. omega (arith, run.other (omega arith), rising (here + count) i l m);
              met =
                  met_next (met-skip kind up walked.met absent) place count counts
                  (λ l. place_is) (λ z. absurd (omega arith)) after link;
              named = λ shut i l. ⊎_elim
                  (λ h.
                  let at-kind = ap (λ (k : ℕ). get_or places k 0) (run.same i h l) in
                  omega (arith, named shut))
                  (λ h. walked.named shut i h)
                  (le-or-lt here i);
            }

  pub walked-done : length links ≤ at
      → LeavingAs words places is_open links (Some (record { span = before; found = found }))
  walked-done past =
      let end : length links ≡ 3 * walked.link = omega (arith, walked.place, walked.inside, asked.rise.size) in (
        met-skip max_kinds walked.outgoing walked.met (λ k a b. kinds-none links asked.rise k (λ i l e.
            omega (arith, walked.below i (omega (arith, asked.rise.size))))),
        λ shut i l. walked.named shut i (omega arith),
      )

-- The labels before the last ones: the outgoing ones, and after them some that count 0.
leaving-met : {words places links : List ℕ} {before : Span} {found : ℕ} (arriving : List ℕ)
    → LeavingAsked words places links → length arriving ≤ max_kinds
    → MetBelow words places (kinds_in links) max_kinds before found
    → MetBelow words places (amount links arriving) (max_labels - length arriving) before found
leaving-met {links = links} arriving asked few met =
    met-alike
    (met-skip (max_labels - length arriving) (omega arith) met (λ k a b. kinds-none links asked.rise k (λ i l e.
    omega (arith, asked.leaving i (omega (arith, asked.rise.size))))))
    (λ k l. amount-counted links arriving k l)

-- ---- the last labels
-- Going along the counts of the last labels stands at one: where the labels before them are met, so are those whose
-- counts are passed.
pub record Arrived (words places arriving : List ℕ) (before : Span) (found₀ : ℕ) (k : ℕ) (after : Span) (found : ℕ)
    : Type 0 where
  pub inside : k ≤ length arriving
  pub few : found ≤ max_kinds + k
  pub met : (w : ℕ → ℕ) → LastLabels arriving w → MetBelow words places w (max_labels - length arriving) before found₀
      → MetBelow words places w (max_labels - length arriving + k) after found

pub arrived-start : (words places arriving : List ℕ) (before : Span) (found : ℕ) → found ≤ max_kinds
    → Arrived words places arriving before found 0 before found
arrived-start words places arriving before found few = record {
  inside = omega arith;
  few = omega arith;
  met = λ w listed met. rw add-zero met;
}

module _ {words places arriving : List ℕ} {before : Span} {found₀ k : ℕ} {now : Span} {found : ℕ}
    (arrived : Arrived words places arriving before found₀ k now found) where
  pub arrived-next : (place count : ℕ) (after : Span) → k < length arriving → count ≡ get_or arriving k 0
      → (count ≡ 0 → place ≡ 0) → (0 < count → place ≡ get_or places (max_labels - length arriving + k) 0)
      → LinkMet words place count now after
      → Arrived words places arriving before found₀ (k + 1) after (found + demanded words place)
  arrived-next place count after more counts none some link = record {
    inside = omega arith;
    few = omega (arith, arrived.few, demand-few words place);
    met = λ w listed met.
        let e : max_labels - length arriving + k + 1 ≡ max_labels - length arriving + (k + 1) = omega arith in
        subst (λ (b : ℕ). MetBelow words places w b after (found + demanded words place)) e
        (met_next (arrived.met w listed met) place count (listed k more ∙ sym counts) some none
        after link);
  }

  pub arrived-done : length arriving ≤ max_kinds → length arriving ≤ k
      → ArrivingAs words places arriving (record { span = before; found = found₀ })
      (record { span = now; found = found })
  arrived-done few past w listed met =
      let e : max_labels - length arriving + k ≡ max_labels = omega (arith, arrived.inside) in
      subst (λ (b : ℕ). MetBelow words places w b now found) e (arrived.met w listed met)

-- ---- a card
amount-last : (links arriving : List ℕ) → LastLabels arriving (amount links arriving)
amount-last links arriving k l =
    let first = max_labels - length arriving in
    let e : first + k - first ≡ k = omega arith in
    amount-listed links arriving (first + k) (omega arith) ∙ ap (λ (x : ℕ). get_or arriving x 0) e

module _ {words places links arriving : List ℕ} (asked : MeetAsked words places links arriving) where
  pub leaving-asked : LeavingAsked words places links
  leaving-asked = record { placed = asked.placed; rise = asked.rise; leaving = asked.leaving }

  pub arriving-asked : {is_open : Bool} (first : Found) → LeavingAs words places is_open links (Some first)
      → ArrivingAsked words places arriving first.found
  arriving-asked first h = record { placed = asked.placed; few = asked.few; found-few = met-few h.0 }

  module _ (is_open : Bool) (needed : ℕ) (p : Part) (kinds : ℕ) (surveyed : Surveyed words p places needed)
      (under : KindsUnder links kinds) where
    pub card-unnamed : LeavingAs words places is_open links None
        → MetAs is_open kinds p (amount links arriving) None
    card-unnamed h =
        let (shut, some) = h in
        let (i, l, e) = some in
        (shut, unnamed-counts surveyed links arriving asked.rise asked.few kinds under i l e)

    pub card-met : (first both : Found) (after : Span) → LeavingAs words places is_open links (Some first)
        → ArrivingAs words places arriving first both → AllMet needed both.found both.span after
        → MetAs is_open kinds p (amount links arriving) (Some after)
    card-met first both after h arrived left =
        let w = amount links arriving in
        let met = arrived w (amount-last links arriving) (leaving-met arriving leaving-asked asked.few h.0) in (
          interval-met surveyed w both.span both.found met after left,
          bool_case is_open
              (λ o. or_left is_open (others_zero kinds p w) o)
              (λ shut. or_right is_open (others_zero kinds p w)
              (named-counts surveyed links arriving asked.rise asked.few kinds under (h.1 shut))),
        )

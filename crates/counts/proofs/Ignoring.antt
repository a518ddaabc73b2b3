-- "Fit counts" goes by the kinds that a shape looks at: open shapes and closed ones.
-- CountsFor      a list has a count for each kind each way, none over 8,192
-- AlikeFor     two lists agree on each kind each way that a shape looks at
-- seen_same    a shape sees the same counts in such lists
-- fit-ignores  what is said of the one and of the other is the same
-- open-fits    of an open shape it says yes exactly if some bag of its part has the counts of the labels that it names
-- closed-fits  of a closed shape it says no where an outgoing kind counts that it does not name
-- Assumes nothing.
use Prim.Native.Nat.{ℕ, ◌+◌, ◌*◌, ◌≤◌, ◌<◌}
use mathlib.Core.Path.{◌≡◌, sym, ◌∙◌, subst}
use mathlib.Core.Logic.{⊎_elim, ◌↔◌}
use mathlib.Core.Bool.{Bool, true, false}
use mathlib.Core.List.{List, [], ◌∷◌}
use native.Mathlib.Omega.{arith}
use lib.ListN.{length, get_or}
use Rattle.words.specs.Said.{Said, values}
use Rattle.words.specs.Limits.{max_kinds, max_count}
use Rattle.words.specs.Reading.{accepted}
use Rattle.words.proofs.Bools.{le-or-lt}
use Rattle.bags.specs.Label.{outgoing, incoming, label_of}
use Rattle.bags.specs.Part.{Part, Names, KindsBelow}
use Rattle.bags.specs.Bag.{Fits}
use Rattle.bags.specs.Look.{looks_at, seen, listed}
use Rattle.bags.proofs.Naming.{OfKindBelow, names-kind}
use Rattle.bags.proofs.Looking.{looks-cases, seen_alike, listed-outgoing, listed-incoming, listed-none}
use Rattle.bags.proofs.Opening.{FitsNamed, open-exact, closed-counts}
use Rattle.template.specs.Template.{opens, Template, read_template}
use Rattle.template.proofs.Accepted.{template-accepted}
use Rattle.counts.specs.Fit.{FitFound, FitSays}
use Rattle.counts.proofs.Counts.{over_none}
use Rattle.counts.proofs.Fitting.{question, fit-asked, yes-exact, no-exact, answers-alike}

-- So many counts each way, each at most 8,192.
pub record CountsFor (kinds : ℕ) (counts : List ℕ) : Type 0 where
  pub each_way : length counts ≡ 2 * kinds
  pub small : (i : ℕ) → i < length counts → get_or counts i 0 ≤ max_count

-- The same count of each kind each way that the shape looks at.
pub record AlikeFor (is_open : Bool) (p : Part) (kinds : ℕ) (counts other : List ℕ) : Type 0 where
  pub outward :
      (k : ℕ) → k < kinds → looks_at is_open p (label_of outgoing k) ≡ true → get_or counts k 0 ≡ get_or other k 0
  pub inward :
      (k : ℕ) → k < kinds → looks_at is_open p (label_of incoming k) ≡ true →
      get_or counts (kinds + k) 0 ≡ get_or other (kinds + k) 0

-- A shape whose kinds are counted sees the same in lists that are alike for it.
module _
    (is_open : Bool) (p : Part) (kinds : ℕ) (few : kinds ≤ max_kinds) (below : KindsBelow kinds p) (counts other :
    List ℕ)
    (room : kinds ≤ length counts) (other-room : kinds ≤ length other) (alike : AlikeFor is_open p kinds counts other)
  where
    outgoing-same :
        (k : ℕ) → k < max_kinds → looks_at is_open p k ≡ true → listed kinds counts k ≡ listed kinds other k
    outgoing-same k h seen-it =
        ⊎_elim
        (λ l. listed-none kinds counts k l h room ∙ sym (listed-none kinds other k l h other-room))
        (λ l.
        let own : k ≡ label_of outgoing k = omega arith in
        listed-outgoing kinds counts few k l
        ∙ alike.outward k l (subst (λ (x : ℕ). looks_at is_open p x ≡ true) own seen-it)
        ∙ sym (listed-outgoing kinds other few k l))
        (le-or-lt kinds k)

    named-same :
        (k : ℕ) → looks_at is_open p k ≡ true → OfKindBelow kinds k → listed kinds counts k ≡ listed kinds other k
    named-same k seen-it (outgoing, kind, l, q) = outgoing-same k (omega arith) seen-it
    named-same k seen-it (incoming, kind, l, q) =
        rw q
        (listed-incoming kinds counts kind
        ∙ alike.inward kind l (subst (λ (x : ℕ). looks_at is_open p x ≡ true) q seen-it)
        ∙ sym (listed-incoming kinds other kind))

    seen_same : seen is_open p (listed kinds counts) ≡ seen is_open p (listed kinds other)
    seen_same =
        seen_alike is_open p (listed kinds counts) (listed kinds other)
        (λ k e. ⊎_elim
        (λ n. named-same k e (names-kind kinds p below k n))
        (λ h. outgoing-same k h.1 e)
        (looks-cases is_open p k e))

module _ (words : List ℕ) (t : Template) (e : read_template words ≡ accepted t) (shape : ℕ) (below : shape < t.shapes)
  where
    answers_of :
        (counts : List ℕ) (said : Said) → CountsFor t.kinds counts → FitSays words shape counts said →
        FitFound (question words t shape counts) said
    answers_of counts said c says =
        rw (fit-asked words shape counts t e below c.each_way (omega (arith, over_none counts c.small))) at says

    -- For a template that is read and one of its shapes.
    pub fit-ignores :
        (counts other : List ℕ) → CountsFor t.kinds counts → CountsFor t.kinds other →
        AlikeFor (opens words shape) (get_or t.parts shape Part.nothing) t.kinds counts other →
        (x y : Said) → FitSays words shape counts x → FitSays words shape other y → x ≡ y
    fit-ignores counts other c d alike x y says others =
        let a = template-accepted words t e in
        let p = get_or t.parts shape Part.nothing in
        let same = seen_same (opens words shape) p t.kinds a.kinds-high (a.kinds-below shape below) counts other
        (omega (arith, c.each_way)) (omega (arith, d.each_way)) alike in
        answers-alike (question words t shape counts) (question words t shape other) x y
        (subst (Fits t.shapes p) same, subst (Fits t.shapes p) (sym same))
        (answers_of counts x c says) (answers_of other y d others)

    module _ (counts : List ℕ) (c : CountsFor t.kinds counts) (said : Said) (says : FitSays words shape counts said)
      where
        abbrev part : Part
        part = get_or t.parts shape Part.nothing

        pub open-fits :
            opens words shape ≡ true →
            (said ≡ values (1 ∷ [])) ↔ FitsNamed t.shapes part (listed t.kinds counts)
        open-fits o =
            let exact = open-exact t.shapes part (listed t.kinds counts) in
            let answers = answers_of counts said c says in
            let (yes-fits, fits-yes) = yes-exact (question words t shape counts) said answers in (
              λ e. exact.0 (rw o at (yes-fits e)),
              λ f. fits-yes (rw o (exact.1 f)),
            )

        pub closed-fits :
            opens words shape ≡ false → (k : ℕ) → k < t.kinds → (Names part k → ⊥) → (get_or counts k 0 ≡ 0 → ⊥) →
            said ≡ values (0 ∷ [])
        closed-fits o k l unnamed counted =
            let a = template-accepted words t e in
            (no-exact (question words t shape counts) said (answers_of counts said c says)).1 (λ f.
            counted (sym (listed-outgoing t.kinds counts a.kinds-high k l)
            ∙ closed-counts t.shapes part (listed t.kinds counts) (rw o at f) k (omega (arith, a.kinds-high))
            unnamed))

-- What reading a script finds: a law for each answer, and what a script that is read has.
-- link-from, link-kind, link-to, link-passes, link-order   the test of one link
-- links-next, links-refused, links-done                    the links one by one
-- script-short, script-cards, script-links, script-size, script-links-read   the whole script
-- ScriptNumber, script-numbers                             a script is refused with 20 to 25
-- ScriptAccepted, script-accepted                          what a script that is read has
-- Assumes nothing.
use Prim.Native.Nat.{ℕ, zero, suc, ◌+◌, ◌-◌, ◌*◌, ◌≤◌, ◌<◌}
use mathlib.Core.Path.{◌≡◌, refl, sym, ap, subst}
use mathlib.Core.Logic.{⊎_elim}
use mathlib.Core.Bool.{true, false, not}
use mathlib.Core.List.{List}
use native.Mathlib.Omega.{arith}
use native.Mathlib.Nat.{eq-or-lt_of_le}
use native.Mathlib.Numerals.{add-one}
use lib.ListN.{length, get_or}
use lib.Dec.{ltb, leb, eqb}
use borrow.Author.Tests.{le-leb, lt-leb, lt-ltb, le-ltb, eq-eqb, ne_eqb, leb-false, ltb-false, eqb-true, not-false}
use Rattle.words.specs.Limits.{max_cards, max_links}
use Rattle.words.specs.Reading.{Reading, accepted, turned_down}
use Rattle.words.proofs.Readings.{accepted-same, passed, Numbered, refuse-numbered}
use Rattle.script.specs.Link.{from_index, kind_index, to_index, from_at, kind_at, to_at, above}
use Rattle.script.specs.Steps.{Ascending, after_link}
use Rattle.std.specs.Prelude.{Result, Ok, Err}
use Rattle.words.specs.Refused.{number}
use Rattle.words.specs.declared.refusal.Refusal.{Refusal}
use Rattle.script.specs.Script.{ScriptCounts, counts_of, read_links, read_script}

-- One link's test.
module _ (kinds cards : ℕ) (script : List ℕ) (n i : ℕ) (done : Reading ScriptCounts) where
  pub link-from : cards ≤ from_at script i → read_links kinds cards script (suc n) i done ≡ turned_down 23
      (from_index i)
  unfolding read_links
  link-from h = rw (le-leb cards (from_at script i) h) refl

  pub link-kind : from_at script i < cards → kinds ≤ kind_at script i
      → read_links kinds cards script (suc n) i done ≡ turned_down 24 (kind_index i)
  unfolding read_links
  link-kind f h = rw (lt-leb cards (from_at script i) f, le-leb kinds (kind_at script i) h) refl

  pub link-to : from_at script i < cards → kind_at script i < kinds → cards ≤ to_at script i
      → read_links kinds cards script (suc n) i done ≡ turned_down 23 (to_index i)
  unfolding read_links
  link-to f k h =
      rw (lt-leb cards (from_at script i) f, lt-leb kinds (kind_at script i) k, le-leb cards (to_at script i) h) refl

  module _ (f : from_at script i < cards) (k : kind_at script i < kinds) (t : to_at script i < cards) where
    pub link-passes : above script i ≡ true
        → read_links kinds cards script (suc n) i done ≡ read_links kinds cards script n (suc i) done
    unfolding read_links
    link-passes e =
        rw (
          lt-leb cards (from_at script i) f,
          lt-leb kinds (kind_at script i) k,
          lt-leb cards (to_at script i) t,
          e,
        ) refl

    pub link-order : above script i ≡ false → read_links kinds cards script (suc n) i done ≡ turned_down 25
        (from_index i)
    unfolding read_links
    link-order e =
        rw (
          lt-leb cards (from_at script i) f,
          lt-leb kinds (kind_at script i) k,
          lt-leb cards (to_at script i) t,
          e,
        ) refl

-- The links from link i on, where some are left: what the code's test of link i makes of them.
module _ (kinds cards : ℕ) (script : List ℕ) (count i : ℕ) (done : Reading ScriptCounts) (test : Result (Unit {0})
    Refusal)
    (l : i < count) (tested : (n : ℕ) (rest : Reading ScriptCounts) →
    read_links kinds cards script (suc n) i rest ≡ after_link test (read_links kinds cards script n (suc i) rest))
  where
    links-tested : read_links kinds cards script (count - i) i done
        ≡ after_link test (read_links kinds cards script (count - (i + 1)) (i + 1) done)
    links-tested =
        let e : count - i ≡ suc (count - (i + 1)) = omega arith in
        rw (e, add-one i) (tested (count - suc i) done)

    pub links-next : {passed : Unit {0}} → test ≡ Ok passed
        → read_links kinds cards script (count - i) i done ≡ read_links kinds cards script (count - (i + 1)) (i +
        1) done
    links-next e = rw e at links-tested

    pub links-refused : {r : Refusal} → test ≡ Err r
        → read_links kinds cards script (count - i) i done ≡ turned_down (number r.0) r.1
    links-refused e = rw e at links-tested

-- And where none is left.
pub links-done : (kinds cards : ℕ) (script : List ℕ) (count i : ℕ) (done : Reading ScriptCounts) → count ≤ i
    → read_links kinds cards script (count - i) i done ≡ done
unfolding read_links
links-done kinds cards script count i done l = let e : count - i ≡ 0 = omega arith in rw e refl

-- The whole script.
module _ (kinds : ℕ) (script : List ℕ) where
  pub script-short : length script < 2 → read_script kinds script ≡ turned_down 20 0
  unfolding read_script
  script-short h = rw (lt-ltb (length script) 2 h) refl

  module _ (two : 2 ≤ length script) where
    pub script-cards : max_cards < get_or script 0 0 → read_script kinds script ≡ turned_down 21 0
    unfolding read_script
    script-cards h = rw (le-ltb (length script) 2 two, lt-ltb max_cards (get_or script 0 0) h) refl

    module _ (n : get_or script 0 0 ≤ max_cards) where
      pub script-links : max_links < get_or script 1 0 → read_script kinds script ≡ turned_down 22 1
      unfolding read_script
      script-links h =
          let few = le-ltb max_cards (get_or script 0 0) n in
          rw (le-ltb (length script) 2 two, few, lt-ltb max_links (get_or script 1 0) h) refl

      module _ (m : get_or script 1 0 ≤ max_links) where
        pub script-size : (length script ≡ 2 + 3 * get_or script 1 0 → ⊥) → read_script kinds script ≡ turned_down 20 0
        unfolding read_script
        script-size h =
            let cards = le-ltb max_cards (get_or script 0 0) n in
            let links = le-ltb max_links (get_or script 1 0) m in
            let size = ne_eqb (length script) (2 + 3 * get_or script 1 0) h in
            rw (le-ltb (length script) 2 two, cards, links, size) refl

        pub script-links-read : length script ≡ 2 + 3 * get_or script 1 0
            → read_script kinds script
            ≡ read_links kinds (get_or script 0 0) script (get_or script 1 0) 0
            (accepted (counts_of (get_or script 0 0) (get_or script 1 0)))
        unfolding read_script
        script-links-read h =
            let cards = le-ltb max_cards (get_or script 0 0) n in
            let links = le-ltb max_links (get_or script 1 0) m in
            let size = eq-eqb (length script) (2 + 3 * get_or script 1 0) h in
            rw (le-ltb (length script) 2 two, cards, links, size) refl

-- The numbers that a script is refused with.
abbrev pub ScriptNumber : ℕ → Type 0
ScriptNumber number = (20 ≤ number) × (number ≤ 25)

links-numbers : (kinds cards : ℕ) (script : List ℕ) (n i : ℕ) (done : Reading ScriptCounts)
    → Numbered ScriptNumber done → Numbered ScriptNumber (read_links kinds cards script n i done)
unfolding read_links
links-numbers kinds cards script zero i done h = h
links-numbers kinds cards script (suc n) i done h =
    refuse-numbered ScriptNumber 23 (from_index i) (leb cards (from_at script i)) _ (omega arith, omega arith)
    (refuse-numbered ScriptNumber 24 (kind_index i) (leb kinds (kind_at script i)) _ (omega arith, omega arith)
    (refuse-numbered ScriptNumber 23 (to_index i) (leb cards (to_at script i)) _ (omega arith, omega arith)
    (refuse-numbered ScriptNumber 25 (from_index i) (not (above script i)) _ (omega arith, omega arith)
    (links-numbers kinds cards script n (suc i) done h))))

pub script-numbers : (kinds : ℕ) (script : List ℕ) → Numbered ScriptNumber (read_script kinds script)
unfolding read_script
script-numbers kinds script =
    let counts = counts_of (get_or script 0 0) (get_or script 1 0) in
    let size = eqb (length script) (2 + 3 * get_or script 1 0) in
    refuse-numbered ScriptNumber 20 0 (ltb (length script) 2) _ (omega arith, omega arith)
    (refuse-numbered ScriptNumber 21 0 (ltb max_cards (get_or script 0 0)) _ (omega arith, omega arith)
    (refuse-numbered ScriptNumber 22 1 (ltb max_links (get_or script 1 0)) _ (omega arith, omega arith)
    (refuse-numbered ScriptNumber 20 0 (not size) _ (omega arith, omega arith)
    (links-numbers kinds counts.cards script counts.links 0 (accepted counts) tt))))

-- What a link that passes its test has.
record LinkPasses (kinds cards : ℕ) (script : List ℕ) (i : ℕ) : Type 0 where
  pub from-below : from_at script i < cards
  pub kind-below : kind_at script i < kinds
  pub to_below : to_at script i < cards
  pub rising : above script i ≡ true

links-passed : (kinds cards : ℕ) (script : List ℕ) (n i : ℕ) (done : Reading ScriptCounts) (c : ScriptCounts)
    → read_links kinds cards script n i done ≡ accepted c
    → (done ≡ accepted c) × ((k : ℕ) → i ≤ k → k < i + n → LinkPasses kinds cards script k)
unfolding read_links
links-passed kinds cards script zero i done c e = (e, λ k a b. absurd (omega arith))
links-passed kinds cards script (suc n) i done c e =
    let (f, e1) = passed 23 (from_index i) (leb cards (from_at script i)) _ c e in
    let (k, e2) = passed 24 (kind_index i) (leb kinds (kind_at script i)) _ c e1 in
    let (t, e3) = passed 23 (to_index i) (leb cards (to_at script i)) _ c e2 in
    let (o, e4) = passed 25 (from_index i) (not (above script i)) _ c e3 in
    let (d, later) = links-passed kinds cards script n (suc i) done c e4 in
    let here : LinkPasses kinds cards script i = record {
      from-below = leb-false cards (from_at script i) f;
      kind-below = leb-false kinds (kind_at script i) k;
      to_below = leb-false cards (to_at script i) t;
      rising = not-false (above script i) o;
    } in (
      d,
      λ j a b.
          ⊎_elim (λ q. subst (LinkPasses kinds cards script) q here) (λ l. later j l (omega arith)) (eq-or-lt_of_le a),
    )

-- What a script that is read with N cards and M links has.
pub record ScriptAccepted (kinds : ℕ) (script : List ℕ) (N M : ℕ) : Type 0 where
  pub cards : N ≡ get_or script 0 0
  pub links : M ≡ get_or script 1 0
  pub cards-bound : N ≤ max_cards
  pub links-bound : M ≤ max_links
  pub size : length script ≡ 2 + 3 * M
  pub from-below : (i : ℕ) → i < M → from_at script i < N
  pub kind-below : (i : ℕ) → i < M → kind_at script i < kinds
  pub to_below : (i : ℕ) → i < M → to_at script i < N
  pub ascending : Ascending script M

pub script-accepted : (kinds : ℕ) (script : List ℕ) (c : ScriptCounts) → read_script kinds script ≡ accepted c
    → ScriptAccepted kinds script c.cards c.links
unfolding read_script
script-accepted kinds script c e =
    let (two, e1) = passed 20 0 (ltb (length script) 2) _ c e in
    let (n, e2) = passed 21 0 (ltb max_cards (get_or script 0 0)) _ c e1 in
    let (m, e3) = passed 22 1 (ltb max_links (get_or script 1 0)) _ c e2 in
    let (z, e4) = passed 20 0 (not (eqb (length script) (2 + 3 * get_or script 1 0))) _ c e3 in
    let (d, p) = links-passed kinds (get_or script 0 0) script (get_or script 1 0) 0 _ c e4 in
    let same : counts_of (get_or script 0 0) (get_or script 1 0) ≡ c = accepted-same d in
    let cards : c.cards ≡ get_or script 0 0 = sym (ap (λ (x : ScriptCounts). x.cards) same) in
    let links : c.links ≡ get_or script 1 0 = sym (ap (λ (x : ScriptCounts). x.links) same) in
    let few : get_or script 1 0 ≤ max_links = ltb-false max_links (get_or script 1 0) m in
    let size : length script ≡ 2 + 3 * get_or script 1 0 =
    eqb-true (length script) (2 + 3 * get_or script 1 0) (not-false _ z) in
    let at : (i : ℕ) → i < c.links → LinkPasses kinds (get_or script 0 0) script i =
    λ i l. p i (omega arith) (omega arith) in
    let up : Ascending script c.links = record {
      few = omega arith;
      size = omega arith;
      rising = λ i l. (at i l).rising;
    } in
    record {
      cards = cards;
      links = links;
      cards-bound = omega (arith, ltb-false max_cards (get_or script 0 0) n);
      links-bound = omega arith;
      size = omega arith;
      from-below = λ i l. omega (arith, (at i l).from-below);
      kind-below = λ i l. (at i l).kind-below;
      to_below = λ i l. omega (arith, (at i l).to_below);
      ascending = up;
    }

-- Every well-formed script, written, is read as its counts and has its links; and what is read is the writing of its
-- links.
--   written_from, written-kind, written-to   the words of a written script's links are the links'
--   written-is-read   a well-formed script that is written is read as its counts of cards and of links
--   read-is-written   the words of a script that is read are those that are written for its links
--   read-is-formed    and it is well-formed
--   scripts-are       so the words that are read are just the writings of the well-formed scripts
-- Assumes nothing.
use Prim.Native.Nat.{ℕ, zero, suc, ◌+◌, ◌*◌, ◌≤◌, ◌<◌}
use mathlib.Core.Path.{◌≡◌, refl, sym, ap, subst, ◌∙◌}
use mathlib.Core.Logic.{inl, inr, ⊎_elim, ◌↔◌}
use mathlib.Core.Bool.{true}
use mathlib.Core.List.{List, [], ◌∷◌}
use native.Mathlib.Omega.{arith}
use lib.ListN.{length, get_or}
use borrow.Author.Tests.{lt-ltb, ltb-true}
use Rattle.words.specs.Reading.{Reading, accepted}
use Rattle.words.proofs.Bools.{eq-or-ne}
use Rattle.parts.proofs.Stands.{Stands, stands-nil, stands-cons, stands-three, stands-append, stands-only}
use Rattle.script.specs.Link.{from_index, kind_index, to_index, from_at, kind_at, to_at, greater, above}
use Rattle.script.specs.Script.{ScriptCounts, counts_of, read_links, read_script}
use Rattle.script.specs.Writer.{Link, link_at, write_links, write_script, word_links, Before, LinkFormed}
use Rattle.script.specs.Writer.{WellFormed}
use Rattle.script.proofs.Order.{greater-by-from, greater-by-kind, greater-by-to}
use Rattle.script.proofs.Reading.{link-passes, script-links-read, script-accepted}

-- ---- the words of links
links-length : (links : List Link) → length (write_links links) ≡ 3 * length links
links-length [] = refl
links-length (l ∷ ls) = omega (arith, links-length ls)

from-word : (links : List Link) (i : ℕ) → get_or (write_links links) (3 * i) 0 ≡ (link_at links i).from
from-word [] i = refl
from-word (l ∷ ls) zero = refl
from-word (l ∷ ls) (suc i) =
    let e : 3 * suc i ≡ suc (suc (suc (3 * i))) = omega arith in
    ap (λ (n : ℕ). get_or (write_links (l ∷ ls)) n 0) e ∙ from-word ls i

kind-word : (links : List Link) (i : ℕ) → get_or (write_links links) (suc (3 * i)) 0 ≡ (link_at links i).kind
kind-word [] i = refl
kind-word (l ∷ ls) zero = refl
kind-word (l ∷ ls) (suc i) =
    let e : suc (3 * suc i) ≡ suc (suc (suc (suc (3 * i)))) = omega arith in
    ap (λ (n : ℕ). get_or (write_links (l ∷ ls)) n 0) e ∙ kind-word ls i

to_word : (links : List Link) (i : ℕ) → get_or (write_links links) (suc (suc (3 * i))) 0 ≡ (link_at links i).to
to_word [] i = refl
to_word (l ∷ ls) zero = refl
to_word (l ∷ ls) (suc i) =
    let e : suc (suc (3 * suc i)) ≡ suc (suc (suc (suc (suc (3 * i))))) = omega arith in
    ap (λ (n : ℕ). get_or (write_links (l ∷ ls)) n 0) e ∙ to_word ls i

module _ (cards : ℕ) (links : List Link) where
  written_from : (i : ℕ) → from_at (write_script cards links) i ≡ (link_at links i).from
  unfolding from_at
  written_from i =
      let e : from_index i ≡ suc (suc (3 * i)) = omega arith in
      ap (λ (n : ℕ). get_or (write_script cards links) n 0) e ∙ from-word links i

  written-kind : (i : ℕ) → kind_at (write_script cards links) i ≡ (link_at links i).kind
  unfolding kind_at
  written-kind i =
      let e : kind_index i ≡ suc (suc (suc (3 * i))) = omega arith in
      ap (λ (n : ℕ). get_or (write_script cards links) n 0) e ∙ kind-word links i

  written-to : (i : ℕ) → to_at (write_script cards links) i ≡ (link_at links i).to
  unfolding to_at
  written-to i =
      let e : to_index i ≡ suc (suc (suc (suc (3 * i)))) = omega arith in
      ap (λ (n : ℕ). get_or (write_script cards links) n 0) e ∙ to_word links i

-- ---- the order
-- The link that words have.
abbrev word_link : List ℕ → ℕ → Link
word_link script i = record { from = from_at script i; kind = kind_at script i; to = to_at script i }

before_same : {a b c d : Link} → a ≡ c → b ≡ d → Before c d → Before a b
before_same {a} {b} {c} {d} e f h = subst (λ (x : Link). Before x b) (sym e) (subst (Before c) (sym f) h)

greater-before : (script : List ℕ) (i j : ℕ) → Before (word_link script j) (word_link script i)
    → greater script i j ≡ true
greater-before script i j (inl l) =
    sym (greater-by-from script i j (λ e. omega arith)) ∙ lt-ltb (from_at script j) (from_at script i) l
greater-before script i j (inr (e, inl l)) =
    sym (greater-by-kind script i j (sym e) (λ f. omega arith)) ∙ lt-ltb (kind_at script j) (kind_at script i) l
greater-before script i j (inr (e, inr (f, l))) =
    sym (greater-by-to script i j (sym e) (sym f)) ∙ lt-ltb (to_at script j) (to_at script i) l

before-greater : (script : List ℕ) (i j : ℕ) → greater script i j ≡ true
    → Before (word_link script j) (word_link script i)
before-greater script i j g = ⊎_elim
    (λ e. inr (
      sym e,
      ⊎_elim
          (λ f. inr (sym f, ltb-true (to_at script j) (to_at script i) (greater-by-to script i j e f ∙ g)))
          (λ d. inl (ltb-true (kind_at script j) (kind_at script i) (greater-by-kind script i j e d ∙ g)))
          (eq-or-ne (kind_at script i) (kind_at script j)),
    ))
    (λ d. inl (ltb-true (from_at script j) (from_at script i) (greater-by-from script i j d ∙ g)))
    (eq-or-ne (from_at script i) (from_at script j))

-- ---- what is written is read
-- Links that all pass their tests are read to the end.
links-pass : (kinds cards : ℕ) (script : List ℕ) (n i : ℕ) (done : Reading ScriptCounts)
    → ((k : ℕ) → i ≤ k → k < i + n → LinkFormed kinds cards (word_link script k) × (above script k ≡ true))
    → read_links kinds cards script n i done ≡ done
unfolding read_links
links-pass kinds cards script zero i done h = refl
links-pass kinds cards script (suc n) i done h =
    let (f, up) = h i (omega arith) (omega arith) in
    link-passes kinds cards script n i done f.from-card f.of-kind f.to-card up
    ∙ links-pass kinds cards script n (suc i) done (λ k a b. h k (omega arith) (omega arith))

-- A written script's links are those that were written.
written-link : (cards : ℕ) (links : List Link) (i : ℕ) → word_link (write_script cards links) i ≡ link_at links i
written-link cards links i = rw (written_from cards links i, written-kind cards links i, written-to cards links i) refl

written-above : (kinds cards : ℕ) (links : List Link) → WellFormed kinds cards links
    → (i : ℕ) → i < length links → above (write_script cards links) i ≡ true
unfolding above
written-above kinds cards links w zero l = refl
written-above kinds cards links w (suc i) l =
    greater-before (write_script cards links) (suc i) i
    (before_same (written-link cards links i) (written-link cards links (suc i)) (w.rising i l))

pub written-is-read : (kinds cards : ℕ) (links : List Link) → WellFormed kinds cards links
    → read_script kinds (write_script cards links) ≡ accepted (counts_of cards (length links))
written-is-read kinds cards links w =
    let script : List ℕ = write_script cards links in
    script-links-read kinds script (omega arith) w.cards-high w.links-high (omega (arith, links-length links))
    ∙ links-pass kinds cards script (length links) 0 (accepted (counts_of cards (length links)))
    (λ k a b. (
      subst (LinkFormed kinds cards) (sym (written-link cards links k)) (w.formed k (omega arith)),
      written-above kinds cards links w k (omega arith),
    ))

-- ---- and back
word-links-length : (script : List ℕ) (n i : ℕ) → length (word_links script n i) ≡ n
word-links-length script zero i = refl
word-links-length script (suc n) i = ap suc (word-links-length script n (suc i))

word-links-at : (script : List ℕ) (n i k : ℕ) → k < n → link_at (word_links script n i) k ≡ word_link script (i + k)
word-links-at script zero i k l = absurd (omega arith)
word-links-at script (suc n) i zero l = let e : i ≡ i + 0 = omega arith in ap (word_link script) e
word-links-at script (suc n) i (suc k) l =
    let e : suc i + k ≡ i + suc k = omega arith in
    word-links-at script n (suc i) k (omega arith) ∙ ap (word_link script) e

word-links-stand : (script : List ℕ) (n i : ℕ) → Stands script (2 + 3 * i) (write_links (word_links script n i))
unfolding from_at kind_at to_at
word-links-stand script zero i = stands-nil script (2 + 3 * i)
word-links-stand script (suc n) i =
    let one : 2 + 3 * i + 1 ≡ 3 + 3 * i = omega arith in
    let two : 2 + 3 * i + 2 ≡ 4 + 3 * i = omega arith in
    let next : 2 + 3 * suc i ≡ 2 + 3 * i + 3 = omega arith in
    stands-append script (2 + 3 * i) (from_at script i ∷ kind_at script i ∷ to_at script i ∷ [])
    (write_links (word_links script n (suc i)))
    (stands-three script (2 + 3 * i) (from_at script i) (kind_at script i) (to_at script i) refl
    (ap (λ (k : ℕ). get_or script k 0) one) (ap (λ (k : ℕ). get_or script k 0) two))
    (subst (λ (k : ℕ). Stands script k (write_links (word_links script n (suc i)))) next
    (word-links-stand script n (suc i)))

module _ (kinds : ℕ) (script : List ℕ) (c : ScriptCounts) (read : read_script kinds script ≡ accepted c) where
  pub read-is-written : script ≡ write_script c.cards (word_links script c.links 0)
  read-is-written =
      let a = script-accepted kinds script c read in
      let links : List Link = word_links script c.links 0 in
      let count : length links ≡ c.links = word-links-length script c.links 0 in
      stands-only script (c.cards ∷ length links ∷ write_links links)
      (stands-cons script 0 c.cards (length links ∷ write_links links) (sym a.cards)
      (stands-cons script 1 (length links) (write_links links) (sym a.links ∙ sym count)
      (word-links-stand script c.links 0)))
      (omega (arith, a.size, links-length links))

  pub read-is-formed : WellFormed kinds c.cards (word_links script c.links 0)
  unfolding above
  read-is-formed =
      let a = script-accepted kinds script c read in
      let links : List Link = word_links script c.links 0 in
      let count : length links ≡ c.links = word-links-length script c.links 0 in
      let at : (i : ℕ) → i < c.links → link_at links i ≡ word_link script i =
      λ i l. let e : 0 + i ≡ i = omega arith in word-links-at script c.links 0 i l ∙ ap (word_link script) e in
      record {
        cards-high = a.cards-bound;
        links-high = omega (arith, a.links-bound);
        formed = λ i l.
            let below : i < c.links = omega arith in
            subst (LinkFormed kinds c.cards) (sym (at i below)) (record {
              from-card = a.from-below i below;
              of-kind = a.kind-below i below;
              to-card = a.to_below i below;
            });
        rising = λ i l.
            let below : suc i < c.links = omega arith in
            before_same (at i (omega arith)) (at (suc i) below)
            (before-greater script (suc i) i (a.ascending.rising (suc i) below));
      }

-- Words are read as these counts exactly if they are written for some well-formed links, so many of them.
pub scripts-are : (kinds : ℕ) (script : List ℕ) (c : ScriptCounts) → (read_script kinds script ≡ accepted c)
    ↔ ((links : List Link) × WellFormed kinds c.cards links × (c.links ≡ length links)
    × (script ≡ write_script c.cards links))
scripts-are kinds script c = (
  λ e. (
    word_links script c.links 0,
    read-is-formed kinds script c e,
    sym (word-links-length script c.links 0),
    read-is-written kinds script c e,
  ),
  λ h.
      let (links, w, count, e) = h in
      ap (read_script kinds) e ∙ written-is-read kinds c.cards links w
      ∙ ap (λ (n : ℕ). accepted (counts_of c.cards n)) (sym count),
)

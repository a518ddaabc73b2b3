-- The links of one card lie side by side in an ascending script.
-- below-is, below-le, below-rises   how many links start below a card
-- below-low, below-high             which links those are
-- starts-exact                      a link starts at a card exactly if it lies between two such counts
-- card-part                         the words of a card's links are that part of the script
-- part-within, part-words           where that part lies, and its words, for the code
-- Assumes nothing.
use Prim.Native.Nat.{ℕ, zero, suc, ◌+◌, ◌-◌, ◌*◌, ◌≤◌, ◌<◌}
use mathlib.Core.Path.{◌≡◌, refl, sym, ap, ap₂, subst, ◌∙◌}
use mathlib.Core.Logic.{⊎_elim, ◌↔◌}
use mathlib.Core.Bool.{true, false, cond}
use mathlib.Core.List.{List, [], ◌∷◌, ◌++◌, append-nil}
use native.Mathlib.Omega.{arith}
use native.Mathlib.Nat.{eq-or-lt_of_le, le_of_suc-le-suc, not-suc-le-zero, add-zero, add-suc}
use lib.ListN.{length, get_or, take, drop}
use lib.Seq.{take-add, drop-drop, drop-cons}
use lib.Dec.{ltb, eqb}
use borrow.Author.Tests.{lt-ltb, le-ltb, eq-eqb, ne_eqb}
use Rattle.script.specs.Link.{from_at, kind_at, to_at, card_words, below}
use Rattle.script.specs.Steps.{Ascending, LinksIn}
use Rattle.words.proofs.Bools.{le-or-lt, one-or-none}
use Rattle.script.proofs.Order.{StartsRise, starts-rise}

-- Where the first r links start below card c and the others do not, r is how many do.
pub below-is : (script : List ℕ) (c m r : ℕ) → r ≤ m
    → ((k : ℕ) → k < r → from_at script k < c)
    → ((k : ℕ) → r ≤ k → k < m → c ≤ from_at script k)
    → r ≡ below script c m
unfolding below
below-is script c zero r h low high = omega arith
below-is script c (suc m) r h low high =
    ⊎_elim
    (λ q.
    let all : m ≡ below script c m =
    below-is script c m m (omega arith) (λ k l. low k (omega arith)) (λ k a b. absurd (omega arith)) in
    rw (lt-ltb (from_at script m) c (low m (omega arith))) (omega arith))
    (λ l.
    let same : r ≡ below script c m = below-is script c m r (omega arith) low (λ k a b. high k a (omega arith)) in
    rw (le-ltb (from_at script m) c (high m (omega arith) (omega arith))) (omega arith))
    (eq-or-lt_of_le h)

pub below-le : (script : List ℕ) (c m : ℕ) → below script c m ≤ m
unfolding below
below-le script c zero = omega arith
below-le script c (suc m) = omega (arith, below-le script c m, one-or-none (ltb (from_at script m) c))

-- The links that start below card c come first.
abbrev Split : List ℕ → ℕ → ℕ → Type 0
Split script c m =
    ((k : ℕ) → k < below script c m → from_at script k < c)
    × ((k : ℕ) → below script c m ≤ k → k < m → c ≤ from_at script k)

-- One link more: it starts below card c, and so do all before it; or it does not.
split-low : (script : List ℕ) (c m : ℕ) → StartsRise script (suc m) → from_at script m < c → Split script c (suc m)
split-low script c m rise l =
    let all : (k : ℕ) → k < suc m → from_at script k < c =
    λ k h. omega (arith, rise k m (omega arith) (omega arith)) in
    let e : suc m ≡ below script c (suc m) =
    below-is script c (suc m) (suc m) (omega arith) all (λ k a b. absurd (omega arith)) in
    (λ k h. all k (omega arith), λ k a b. absurd (omega arith))

split-high : (script : List ℕ) (c m : ℕ) → Split script c m → c ≤ from_at script m → Split script c (suc m)
unfolding below
split-high script c m (low, high) l =
    let e : below script c m + cond (ltb (from_at script m) c) 1 0 ≡ below script c m =
    rw (le-ltb (from_at script m) c l) (omega arith) in (
      λ k h. low k (omega arith),
      λ k a b.
          ⊎_elim (λ q. subst (λ (x : ℕ). c ≤ from_at script x) (sym q) l) (λ h. high k (omega arith) h)
          (eq-or-lt_of_le (le_of_suc-le-suc b)),
    )

split : (script : List ℕ) (c m : ℕ) → StartsRise script m → Split script c m
unfolding below
split script c zero rise = (λ k l. absurd (not-suc-le-zero l), λ k a b. absurd (not-suc-le-zero b))
split script c (suc m) rise =
    ⊎_elim (λ h. split-high script c m (split script c m (λ i j a b. rise i j a (omega arith))) h)
    (λ l. split-low script c m rise l)
    (le-or-lt c (from_at script m))

module _ (script : List ℕ) (m : ℕ) (rise : StartsRise script m) (c : ℕ) where
  pub below-low : (k : ℕ) → k < below script c m → from_at script k < c
  below-low k h = (split script c m rise).0 k h

  pub below-high : (k : ℕ) → below script c m ≤ k → k < m → c ≤ from_at script k
  below-high k a b = (split script c m rise).1 k a b

module _ (script : List ℕ) (m : ℕ) (rise : StartsRise script m) (c : ℕ) where
  pub starts-exact : (i : ℕ) → i < m
      → (from_at script i ≡ c) ↔ ((below script c m ≤ i) × (i < below script (c + 1) m))
  starts-exact i l = (
    λ e. (
      ⊎_elim (λ h. h) (λ h. absurd (omega (arith, below-low script m rise c i h)))
          (le-or-lt (below script c m) i),
      ⊎_elim (λ h. absurd (omega (arith, below-high script m rise (c + 1) i h l))) (λ h. h)
          (le-or-lt (below script (c + 1) m) i),
    ),
    λ (a, b). omega (arith, below-high script m rise c i a l, below-low script m rise (c + 1) i b),
  )

  -- The tests of the links before, in and after the card's part.
  test-before : (i : ℕ) → i < below script c m → eqb (from_at script i) c ≡ false
  test-before i h = ne_eqb (from_at script i) c (λ e. omega (arith, below-low script m rise c i h))

  test-within : (i : ℕ) → below script c m ≤ i → i < below script (c + 1) m → eqb (from_at script i) c ≡ true
  test-within i a b =
      eq-eqb (from_at script i) c ((starts-exact i (omega (arith, below-le script (c + 1) m))).1 (a, b))

  test-after : (i : ℕ) → below script (c + 1) m ≤ i → i < m → eqb (from_at script i) c ≡ false
  test-after i a b = ne_eqb (from_at script i) c (λ e. omega (arith, below-high script m rise (c + 1) i a b))

  pub below-rises : below script c m ≤ below script (c + 1) m
  below-rises =
      ⊎_elim (λ h. h)
      (λ h.
      let hi = below script (c + 1) m in
      let low = below-low script m rise c hi h in
      let high = below-high script m rise (c + 1) hi (omega arith) (omega (arith, below-le script c m)) in
      absurd (omega arith))
      (le-or-lt (below script c m) (below script (c + 1) m))

-- The words of the links from link a on and below link e.
unfoldable pub part : List ℕ → ℕ → ℕ → List ℕ
part script a e = take (3 * (e - a)) (drop (2 + 3 * a) script)

part-empty : (script : List ℕ) (a : ℕ) → part script a a ≡ []
unfolding part
part-empty script a = let k : 3 * (a - a) ≡ 0 = omega arith in rw k refl

three : (l : List ℕ) (p : ℕ) → p + 3 ≤ length l
    → take 3 (drop p l) ≡ get_or l p 0 ∷ get_or l (suc p) 0 ∷ get_or l (suc (suc p)) 0 ∷ []
three l p h =
    rw (drop-cons l p 0 (omega arith), drop-cons l (suc p) 0 (omega arith), drop-cons l (suc (suc p)) 0 (omega arith))
    refl

-- The three words of a link.
link-words : (script : List ℕ) (i : ℕ) → 5 + 3 * i ≤ length script
    → take 3 (drop (2 + 3 * i) script) ≡ from_at script i ∷ kind_at script i ∷ to_at script i ∷ []
unfolding from_at kind_at to_at
link-words script i h =
    let at : ℕ → ℕ = λ x. get_or script x 0 in
    let p : suc (2 + 3 * i) ≡ 3 + 3 * i = omega arith in
    let q : suc (suc (2 + 3 * i)) ≡ 4 + 3 * i = omega arith in
    three script (2 + 3 * i) (omega arith) ∙ ap₂ (λ (x y : ℕ). at (2 + 3 * i) ∷ x ∷ y ∷ []) (ap at p) (ap at q)

part-more : (script : List ℕ) (a e : ℕ) → a ≤ e → 5 + 3 * e ≤ length script
    → part script a (suc e) ≡ part script a e ++ (from_at script e ∷ kind_at script e ∷ to_at script e ∷ [])
unfolding part
part-more script a e h l =
    let p : 3 * (suc e - a) ≡ 3 * (e - a) + 3 = omega arith in
    let q : 2 + 3 * a + 3 * (e - a) ≡ 2 + 3 * e = omega arith in
    rw (p, take-add, drop-drop, q, link-words script e l) refl

module _ (script : List ℕ) (m : ℕ) (rise : StartsRise script m) (size : 2 + 3 * m ≤ length script) (c : ℕ) where
  words-before : (k : ℕ) → k ≤ below script c m → card_words script c k ≡ []
  unfolding card_words
  words-before zero h = refl
  words-before (suc k) h = rw (test-before script m rise c k h, words-before k (omega arith)) refl

  words-within : (d : ℕ) → below script c m + d ≤ below script (c + 1) m
      → card_words script c (below script c m + d) ≡ part script (below script c m) (below script c m + d)
  unfolding card_words
  words-within zero h =
      rw add-zero (words-before (below script c m) (omega arith) ∙ sym (part-empty script (below script c m)))
  words-within (suc d) h =
      let lo = below script c m in
      let top = below-le script (c + 1) m in
      rw (add-suc, test-within script m rise c (lo + d) (omega arith) (omega arith), words-within d (omega arith))
      (sym (part-more script lo (lo + d) (omega arith) (omega arith)))

  words-after : (d : ℕ) → below script (c + 1) m + d ≤ m
      → card_words script c (below script (c + 1) m + d) ≡ card_words script c (below script (c + 1) m)
  unfolding card_words
  words-after zero h = rw add-zero refl
  words-after (suc d) h =
      let hi = below script (c + 1) m in
      rw (add-suc hi d, test-after script m rise c (hi + d) (omega arith) (omega arith), append-nil)
      (words-after d (omega arith))

  pub card-part : card_words script c m ≡ part script (below script c m) (below script (c + 1) m)
  card-part =
      let lo = below script c m in
      let hi = below script (c + 1) m in
      let up = below-rises script m rise c in
      let top = below-le script (c + 1) m in
      let p : hi + (m - hi) ≡ m = omega arith in
      let q : lo + (hi - lo) ≡ hi = omega arith in
      sym (ap (card_words script c) p) ∙ words-after (m - hi) (omega arith) ∙ sym (ap (card_words script c) q)
      ∙ words-within (hi - lo) (omega arith) ∙ ap (part script lo) q

-- The part between two counts: where it lies, and what it holds.
module _ (script : List ℕ) (m : ℕ) (a : Ascending script m) (c lo hi : ℕ)
    (l : lo ≡ below script c m) (h : hi ≡ below script (c + 1) m)
  where
    pub part-within : LinksIn script lo hi
    part-within =
        let up = below-rises script m (starts-rise script m a) c in
        let top = below-le script (c + 1) m in
        record { order = omega arith; few = omega (arith, a.few); end = omega (arith, a.size) }

    pub part-words : take (2 + 3 * hi - (2 + 3 * lo)) (drop (2 + 3 * lo) script) ≡ card_words script c m
    unfolding part
    part-words =
        let k : 2 + 3 * hi - (2 + 3 * lo) ≡ 3 * (hi - lo) = omega arith in
        rw (k, l, h) (sym (card-part script m (starts-rise script m a) a.size c))

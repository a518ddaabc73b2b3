-- Which numbers of repetitions the counts allow, over any languages A, B, L with their labels.
--   Reps              the counts of the labels K are those of a sum of i bags of L
--   Exact             an interval has exactly those i
--   exact-empty, exact-no-bag, exact-union, exact-sums, exact-star, exact-plus, exact-link
--                     the interval of each operation of 2.1
-- Assumes nothing.
use Prim.Native.Nat.{ℕ, zero, suc, ◌+◌, ◌*◌, ◌≤◌, ◌<◌}
use mathlib.Core.Path.{◌≡◌, refl, sym, ◌∙◌, ap, subst}
use mathlib.Core.Logic.{◌⊎◌, inl, inr, ⊎_elim, ◌↔◌}
use mathlib.Core.Bool.{Bool, true, false}
use native.Mathlib.Omega.{arith}
use native.Mathlib.Nat.{not-suc-le-zero}
use Rattle.bags.specs.Part.{Limit}
use Rattle.bags.specs.Bag.{Bag, ∅, ◌⊕◌, copies, total, Language, NoBag, EmptyBag, Union, Sums, Power, Star}
use Rattle.bags.specs.Bag.{Plus, Copies}
use Rattle.bags.specs.Interval.{Interval, within, from, In, meet, add, link_interval, star_interval, plus_interval}
use Rattle.bags.proofs.Powers.{power-map, empty-power, power-no-bag, power-union, union-power, power-sums}
use Rattle.bags.proofs.Powers.{sums-power, star-power, power-star, power-plus, plus-power}
use Rattle.bags.proofs.Copies.{UnderTimes, power-copies, copies-power}
use Rattle.bags.proofs.Totals.{total-empty, total-path, total-sum, total-copies, Supported, power-supported}
use Rattle.bags.proofs.Intervals.{Proper, in_meet, split-add, add-split, convex, in-link, in-one-up, in-one-to}

module _ (w : ℕ → ℕ) where
  -- The counts of the labels K are 0.
  abbrev pub Zero : (ℕ → Type 0) → Type 0
  Zero K = (k : ℕ) → K k → w k ≡ 0

  module _ (S : ℕ) where
    -- The counts of the labels K are those of a sum of i bags of L.
    abbrev Reps : Language → (ℕ → Type 0) → ℕ → Type 0
    Reps L K i = (b : Bag) × Power L i b × ((k : ℕ) → K k → total S b k ≡ w k)

    -- I has exactly those i.
    abbrev pub Exact : Interval → Language → (ℕ → Type 0) → Type 0
    Exact I L K = (i : ℕ) → In i I ↔ Reps L K i

    reps-empty : (L : Language) (K : ℕ → Type 0) → Zero K → Reps L K 0
    reps-empty L K z = (∅, refl, λ k n. total-empty S k ∙ sym (z k n))

    reps-zero : (L : Language) (K : ℕ → Type 0) → Reps L K 0 → Zero K
    reps-zero L K r k n = sym (r.2 k n) ∙ total-path S r.1 k ∙ total-empty S k

    -- The same interval for languages with the same bags, and for the same labels.
    pub exact_same : (I : Interval) (L M : Language) (J K : ℕ → Type 0)
        → ((b : Bag) → L b ↔ M b) → ((k : ℕ) → J k ↔ K k) → Exact I L J → Exact I M K
    exact_same I L M J K f g e i = (
      λ h. let (b, p, a) = (e i).0 h in (b, power-map L M (λ x. (f x).0) i b p, λ k n. a k ((g k).1 n)),
      λ h. let (b, p, a) = h in (e i).1 (b, power-map M L (λ x. (f x).1) i b p, λ k n. a k ((g k).0 n)),
    )

    pub exact-empty : (K : ℕ → Type 0) → ((k : ℕ) → K k → ⊥) → Exact (from 0) EmptyBag K
    exact-empty K h i = (λ g. (∅, empty-power i, λ k n. absurd (h k n)), λ r. omega arith)

    pub exact-no-bag : (K : ℕ → Type 0) → ((k : ℕ) → K k → ⊥) → Exact (within 0 0) NoBag K
    exact-no-bag K h i = (
      λ g. let e : 0 ≡ i = omega arith in subst (Reps NoBag K) e (∅, refl, λ k n. absurd (h k n)),
      λ r. let e : i ≡ 0 = power-no-bag i r.0 r.1 in omega arith,
    )

    module _
        (A B : Language) (K M : ℕ → Type 0) (apart : (k : ℕ) → K k → M k → ⊥)
        (sA : Supported S A K) (sB : Supported S B M) (I J : Interval) (eA : Exact I A K) (eB : Exact J B M) where
      left-counts : (i j : ℕ) (b x y : Bag) → Power A i x → Power B j y → b ≡ x ⊕ y
          → ((k : ℕ) → K k ⊎ M k → total S b k ≡ w k) → (k : ℕ) → K k → total S x k ≡ w k
      left-counts i j b x y px py e a k n =
          omega (arith, a k (inl n), total-sum S b x y e k, power-supported S B M sB j y py k (λ m. apart k n m))

      right-counts : (i j : ℕ) (b x y : Bag) → Power A i x → Power B j y → b ≡ x ⊕ y
          → ((k : ℕ) → K k ⊎ M k → total S b k ≡ w k) → (k : ℕ) → M k → total S y k ≡ w k
      right-counts i j b x y px py e a k m =
          omega (arith, a k (inr m), total-sum S b x y e k, power-supported S A K sA i x px k (λ n. apart k n m))

      both-counts : (i j : ℕ) (x y : Bag) → Power A i x → Power B j y
          → ((k : ℕ) → K k → total S x k ≡ w k) → ((k : ℕ) → M k → total S y k ≡ w k)
          → (k : ℕ) → K k ⊎ M k → total S (x ⊕ y) k ≡ w k
      both-counts i j x y px py f g k =
          ⊎_elim
          (λ n. omega (arith, sum k, f k n, power-supported S B M sB j y py k (λ m. apart k n m)))
          (λ m. omega (arith, sum k, g k m, power-supported S A K sA i x px k (λ n. apart k n m)))
        where
          sum : (k : ℕ) → total S (x ⊕ y) k ≡ total S x k + total S y k
          sum = total-sum S (x ⊕ y) x y refl

      pub exact-union : Proper I → Proper J → Exact (add I J) (Union A B) (λ k. K k ⊎ M k)
      exact-union pI pJ i = (
        λ h.
            let (j, l, n, hj, hl) = add-split I J i pI pJ h in
            let (x, px, fx) = (eA j).0 hj in
            let (y, py, fy) = (eB l).0 hl in
            let p = subst (λ (m : ℕ). Power (Union A B) m (x ⊕ y)) n (union-power A B j l x y px py) in
            (x ⊕ y, p, both-counts j l x y px py fx fy),
        λ r.
            let (b, p, a) = r in
            let (j, l, n, u) = power-union A B i b p in
            let (x, y, px, py, e) = u in
            split-add I J i (
              j,
              l,
              n,
              (eA j).1 (x, px, left-counts j l b x y px py e a),
              (eB l).1 (y, py, right-counts j l b x y px py e a),
            ),
      )

      pub exact-sums : Exact (meet I J) (Sums A B) (λ k. K k ⊎ M k)
      exact-sums i = (
        λ h.
            let (hA, hB) = (in_meet I J i).0 h in
            let (x, px, fx) = (eA i).0 hA in
            let (y, py, fy) = (eB i).0 hB in
            (x ⊕ y, sums-power A B i x y px py, both-counts i i x y px py fx fy),
        λ r.
            let (b, p, a) = r in
            let (x, y, px, py, e) = power-sums A B i b p in
            (in_meet I J i).1
            ((eA i).1 (x, px, left-counts i i b x y px py e a), (eB i).1 (y, py, right-counts i i b x y px py e a)),
      )

    module _ (L : Language) (K : ℕ → Type 0) (I : Interval) (pI : Proper I) (eL : Exact I L K) where
      star-all : Zero K → (i : ℕ) → Reps (Star L) K i
      star-all z zero = reps-empty (Star L) K z
      star-all z (suc i) = (∅, star-power L 0 ∅ refl i, λ k n. total-empty S k ∙ sym (z k n))

      star-some : (i : ℕ) → 1 ≤ i → (j : ℕ) → In j I → Reps (Star L) K i
      star-some zero g j h = absurd (not-suc-le-zero g)
      star-some (suc i) g j h = let (b, p, a) = (eL j).0 h in (b, star-power L j b p i, a)

      one-or-more : (Zero K → ⊥) → (M : Language) (i : ℕ) → Reps M K i → 1 ≤ i
      one-or-more z M zero r = absurd (z (reps-zero M K r))
      one-or-more z M (suc i) r = omega arith

      pub exact-star : (t : Bool) → (t ≡ true → Zero K) → (t ≡ false → Zero K → ⊥) → Exact (star_interval t I)
          (Star L) K
      exact-star true yz nz i = (λ h. star-all (yz refl) i, λ r. omega arith)
      exact-star false yz nz i = (
        λ h. let (g, u) = (in-one-up I i pI).0 h in star-some i g u.0 u.1,
        λ r.
            let (b, p, a) = r in
            let (j, q) = power-star L i b p in
            (in-one-up I i pI).1 (one-or-more (nz refl) (Star L) i r, (j, (eL j).1 (b, q, a))),
      )

      plus-some : (i : ℕ) → 1 ≤ i → (j : ℕ) → i ≤ j → In j I → Reps (Plus L) K i
      plus-some zero g j f h = absurd (not-suc-le-zero g)
      plus-some (suc i) g j f h = let (b, p, a) = (eL j).0 h in (b, plus-power L i j b f p, a)

      plus-same : Zero K → (i : ℕ) → In i I → Reps (Plus L) K i
      plus-same z zero h = reps-empty (Plus L) K z
      plus-same z (suc i) h = plus-some (suc i) (omega arith) (suc i) (omega arith) h

      pub exact-plus : (t : Bool) → (t ≡ true → Zero K) → (t ≡ false → Zero K → ⊥) → Exact (plus_interval t I)
          (Plus L) K
      exact-plus true yz nz i = (
        plus-same (yz refl) i,
        λ r.
            let (b, p, a) = r in
            let (j, g, q) = power-plus L i b p in
            convex I 0 i j (omega arith) g ((eL 0).1 (reps-empty L K (yz refl))) ((eL j).1 (b, q, a)),
      )
      exact-plus false yz nz i = (
        λ h. let (g, u) = (in-one-to I i pI).0 h in plus-some i g u.0 u.1 u.2,
        λ r.
            let (b, p, a) = r in
            let (j, g, q) = power-plus L i b p in
            (in-one-to I i pI).1 (one-or-more (nz refl) (Plus L) i r, (j, g, (eL j).1 (b, q, a))),
      )

    pub exact-link : (label shape low : ℕ) (high : Limit) → shape < S
        → Exact (link_interval (w label) low high) (Copies label shape low high) (λ k. k ≡ label)
    exact-link label shape low high s i = (
      λ h.
          let (p, q) = (in-link (w label) low high i).0 h in (
            copies (w label) label shape,
            copies-power label shape low high i (w label) p q,
            λ k n.
                ap (total S (copies (w label) label shape)) n ∙ total-copies S (w label) label shape s ∙ ap w (sym n),
          ),
      λ r.
          let (b, t, a) = r in
          let (n, p, q, e) = power-copies label shape low high i b t in
          let m : n ≡ w label = sym (total-copies S n label shape s) ∙ sym (total-path S e label) ∙ a label refl in
          (in-link (w label) low high i).1
          (subst (λ (z : ℕ). i * low ≤ z) m p, subst (λ (z : ℕ). UnderTimes i z high) m q),
    )

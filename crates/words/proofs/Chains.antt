-- Chains of numbers by a key.
-- last-here, last-other, last-le, last-is, last_none   the last number below another with a key
-- last-zero                                            no number below another has a key
-- last-same, chained_same                              keys that agree on the numbers below another
-- chained-none, chained_more, chained-skip             the chains of no numbers, of one more, and of one with no head
-- chain-falls                                          a chain goes down
-- Along                                                a chain of the numbers with a key, and where it stands
-- along-start                                          it starts at the key's head
-- along-in, along-key                                  the number that it gives next is one of them
-- along-last, along-next                               and it goes on to the last one below
-- Assumes nothing.
use Prim.Native.Nat.{ℕ, zero, suc, ◌+◌, ◌≤◌, ◌<◌}
use mathlib.Core.Path.{◌≡◌, refl, sym, ap, subst, ◌∙◌}
use mathlib.Core.Logic.{⊎_elim}
use mathlib.Core.List.{List}
use native.Mathlib.Omega.{arith}
use native.Mathlib.Nat.{eq-or-lt_of_le, le_of_suc-le-suc, not-suc-le-zero}
use native.Mathlib.Numerals.{add-one}
use lib.ListN.{length, get_or, set, length-set}
use lib.Seq.{get_or-set_same, get_or-set_other}
use borrow.Author.Tests.{eq-eqb, ne_eqb}
use Rattle.words.specs.Chain.{last_at, Chained, Falling, Stepped}
use Rattle.words.proofs.Bools.{eq-or-ne}

pub last-here : (key : ℕ → ℕ) (m k : ℕ) → key k ≡ m → last_at key m (suc k) ≡ suc k
unfolding last_at
last-here key m k e = rw (eq-eqb (key k) m e) refl

pub last-other : (key : ℕ → ℕ) (m k : ℕ) → (key k ≡ m → ⊥) → last_at key m (suc k) ≡ last_at key m k
unfolding last_at
last-other key m k ne = rw (ne_eqb (key k) m ne) refl

pub last-le : (key : ℕ → ℕ) (m k : ℕ) → last_at key m k ≤ k
unfolding last_at
last-le key m zero = omega arith
last-le key m (suc k) =
    ⊎_elim
    (λ e. omega (arith, last-here key m k e))
    (λ e. omega (arith, last-other key m k e, last-le key m k))
    (eq-or-ne (key k) m)

-- The number that a chain leads to has the key,
pub last-is : (key : ℕ → ℕ) (m k i : ℕ) → last_at key m k ≡ suc i → key i ≡ m
unfolding last_at
last-is key m zero i e = absurd (omega arith)
last-is key m (suc k) i e =
    ⊎_elim
    (λ h. subst (λ (x : ℕ). key x ≡ m) (omega (arith, last-here key m k h, e)) h)
    (λ h. last-is key m k i (sym (last-other key m k h) ∙ e))
    (eq-or-ne (key k) m)

-- and none from there on does.
pub last_none : (key : ℕ → ℕ) (m k i : ℕ) → last_at key m k ≤ i → i < k → key i ≡ m → ⊥
unfolding last_at
last_none key m zero i l h e = absurd (not-suc-le-zero h)
last_none key m (suc k) i l h e =
    ⊎_elim
    (λ (x : i ≡ k). absurd (omega (arith, last-here key m k (subst (λ (y : ℕ). key y ≡ m) x e))))
    (λ lt.
    ⊎_elim
    (λ hk. omega (arith, last-here key m k hk))
    (λ hk. last_none key m k i (omega (arith, last-other key m k hk)) lt e)
    (eq-or-ne (key k) m))
    (eq-or-lt_of_le (le_of_suc-le-suc h))

last-zero : (key : ℕ → ℕ) (m k : ℕ) → ((i : ℕ) → i < k → key i ≡ m → ⊥) → last_at key m k ≡ 0
unfolding last_at
last-zero key m zero h = refl
last-zero key m (suc k) h =
    last-other key m k (h k (omega arith)) ∙ last-zero key m k (λ i l. h i (omega arith))

last-same : (key other : ℕ → ℕ) (m k : ℕ) → ((i : ℕ) → i < k → key i ≡ other i) → last_at key m k ≡ last_at other m k
unfolding last_at
last-same key other m zero same = refl
last-same key other m (suc k) same =
    rw (same k (omega arith), last-same key other m k (λ i l. same i (omega arith))) refl

pub chained_same : (key other : ℕ → ℕ) (first next : List ℕ) (k : ℕ) → ((i : ℕ) → i < k → key i ≡ other i)
    → Chained key first next k → Chained other first next k
chained_same key other first next k same s = record {
  heads = λ m l. s.heads m l ∙ last-same key other m k same;
  nexts = λ i l. s.nexts i l ∙ last-same key other (key i) i (λ j h. same j (omega arith))
      ∙ ap (λ (m : ℕ). last_at other m i) (same i l);
}

pub chained-none : (key : ℕ → ℕ) (first next : List ℕ) → ((m : ℕ) → m < length first → get_or first m 0 ≡ 0)
    → Chained key first next 0
unfolding last_at
chained-none key first next z = record { heads = z; nexts = λ i l. absurd (not-suc-le-zero l) }

module _ (key : ℕ → ℕ) (first next : List ℕ) (k m : ℕ)
    (s : Chained key first next k) (e : m ≡ key k) (lm : m < length first) (lk : k < length next)
  where
    more-heads : (c : ℕ) → c < length (set first m (suc k)) → get_or (set first m (suc k)) c 0 ≡ last_at key c (suc k)
    more-heads c lc =
        ⊎_elim
        (λ (x : c ≡ m).
        ap (λ (y : ℕ). get_or (set first m (suc k)) y 0) x ∙ get_or-set_same first m (suc k) 0 lm
        ∙ sym (last-here key c k (sym e ∙ sym x)))
        (λ ne.
        get_or-set_other first m c (suc k) 0 ne
        ∙ s.heads c (subst (λ (y : ℕ). c < y) (length-set first m (suc k)) lc)
        ∙ sym (last-other key c k (λ x. ne (sym x ∙ sym e))))
        (eq-or-ne c m)

    more-nexts : (i : ℕ) → i < suc k → get_or (set next k (get_or first m 0)) i 0 ≡ last_at key (key i) i
    more-nexts i li =
        ⊎_elim
        (λ (x : i ≡ k).
        ap (λ (y : ℕ). get_or (set next k (get_or first m 0)) y 0) x ∙ get_or-set_same next k (get_or first m 0) 0 lk
        ∙ s.heads m lm
        ∙ ap (λ (y : ℕ). last_at key y k) e
        ∙ ap (λ (y : ℕ). last_at key (key y) y) (sym x))
        (λ l. get_or-set_other next k i (get_or first m 0) 0 (omega arith) ∙ s.nexts i l)
        (eq-or-lt_of_le (le_of_suc-le-suc li))

    pub chained_more : Chained key (set first m (k + 1)) (set next k (get_or first m 0)) (k + 1)
    chained_more = rw (add-one k) (record { heads = more-heads; nexts = more-nexts })

-- A number whose key has no head and is no other's is passed over.
pub chained-skip : (key : ℕ → ℕ) (first next : List ℕ) (k : ℕ) → Chained key first next k → length first ≤ key k
    → ((i : ℕ) → i < k → key i ≡ key k → ⊥) → get_or next k 0 ≡ 0 → Chained key first next (k + 1)
chained-skip key first next k s past own zero-next = rw (add-one k) (record {
  heads = λ c lc. s.heads c lc ∙ sym (last-other key c k (λ e. omega (arith, e)));
  nexts = λ i li. ⊎_elim
      (λ (x : i ≡ k). ap (λ (y : ℕ). get_or next y 0) x ∙ zero-next ∙ sym (last-zero key (key k) k own)
      ∙ ap (λ (y : ℕ). last_at key (key y) y) (sym x))
      (λ l. s.nexts i l)
      (eq-or-lt_of_le (le_of_suc-le-suc li));
})

-- ---- along a chain
-- Of the first k numbers, those with the key m: the chain stands before the number at - 1, or at its end if `at` is 0.
pub record Along (key : ℕ → ℕ) (m k at : ℕ) (next : List ℕ) : Type 0 where
  pub before : ℕ
  pub last : at ≡ last_at key m before
  pub bound : at ≤ k
  pub nexts : (i : ℕ) → i < k → get_or next i 0 ≡ last_at key (key i) i

module _ {key : ℕ → ℕ} {first next : List ℕ} {m k : ℕ} (s : Chained key first next k) (h : m < length first) where
  pub along-start : Along key m k (get_or first m 0) next
  along-start = record {
    before = k;
    last = s.heads m h;
    bound = omega (arith, s.heads m h, last-le key m k);
    nexts = s.nexts;
  }

  pub chain-falls : k ≤ length next → Falling (get_or first m 0) next
  chain-falls room = record {
    inside = omega (arith, along-start.bound);
    lower = λ i l. omega (arith, s.nexts i (omega (arith, along-start.bound, l)), last-le key (key i) i);
  }

module _ {key : ℕ → ℕ} {m k at : ℕ} {next : List ℕ} (s : Along key m k at next)
    {i later : ℕ} {left : List ℕ} (t : Stepped at next i later left)
  where
    pub along-in : i < k
    along-in = omega (arith, s.bound, t.stood)

    pub along-key : key i ≡ m
    along-key = last-is key m s.before i (omega (arith, s.last, t.stood))

    pub along-last : later ≡ last_at key m i
    along-last = t.leads ∙ s.nexts i along-in ∙ ap (λ (x : ℕ). last_at key x i) along-key

    pub along-next : Along key m k later left
    along-next = record {
      before = i;
      last = along-last;
      bound = omega (arith, along-in, along-last, last-le key m i);
      nexts = λ j l. ap (λ (x : List ℕ). get_or x j 0) t.same ∙ s.nexts j l;
    }

-- Walks along links, each of which makes some places good: along a chain, and along links that stand side by side.
--   swept-strike        one strike sweeps its place
--   arriving-same       a card that is given as another number
--   leaving-none, leaving-more, leaving-split   no links, and one link more
--   Later               the good places of the numbers of a chain from one on
--   later-skip, later-split, later-arriving     between numbers of the chain, one number more, all links to a card
--   Walking             what a walk has swept when it stands at a number
--   walk_start          it starts at the chain's head
--   walk-next           one number's places more
--   walk-done           at the chain's end all are swept; arriving-swept: so are the links to a card
--   Testing             what a walk has tested when it stands at a number
--   test-start, test-next, test-done, test-one   the same of a walk that tests a set
-- Assumes nothing.
use mathlib.Core.Path.{◌≡◌, refl, sym, ◌∙◌, subst}
use mathlib.Core.Logic.{◌⊎◌, inl, inr, ⊎_elim}
use mathlib.Core.List.{List}
use mathlib.Core.Bool.{Bool, false}
use Prim.Native.Nat.{ℕ, suc, ◌+◌, ◌≤◌, ◌<◌}
use native.Mathlib.Nat.{eq-or-lt_of_le}
use native.Mathlib.Omega.{arith}
use native.Mathlib.Numerals.{add-one}
use lib.ListN.{length, get_or}
use Rattle.script.specs.Link.{to_at}
use Rattle.words.specs.Chain.{last_at, Chained, Stepped}
use Rattle.words.proofs.Chains.{last-le, last_none, Along, along-start, along-in, along-key, along-last, along-next}
use Rattle.board.specs.Grid.{on}
use Rattle.board.specs.Work.{Work, strike_one, stay, then, Swept}
use Rattle.words.proofs.Bools.{le-or-lt}
use Rattle.board.proofs.Worklist.{one-off, swept_none, swept_same, swept-append}
use Rattle.walks.specs.Walks.{Leaving, Arriving, HasAll}

pub swept-strike : (w : Work) (p : ℕ) → p < length w.grid → Swept (λ q. q ≡ p) w (strike_one w p)
swept-strike w p l = record {
  run = then stay refl;
  off = λ q e. subst (λ (x : ℕ). on (strike_one w p).grid x ≡ false) (sym e) (one-off w p l);
}

-- what the links to a card make good, where the card is given as another number that is the same
pub arriving-same : {script : List ℕ} {Good : ℕ → ℕ → Type 0} {w v : Work} {m n : ℕ} → m ≡ n
    → Swept (Arriving script m Good) w v → Swept (Arriving script n Good) w v
arriving-same {script} {Good} {w} {v} e s = subst (λ (x : ℕ). Swept (Arriving script x Good) w v) e s

-- ---- links side by side
module _ {Good : ℕ → ℕ → Type 0} {lo : ℕ} where
  leaving-wider : {i : ℕ} (q : ℕ) → Leaving Good lo i q → Leaving Good lo (i + 1) q
  leaving-wider q g = record { link = g.link; low = g.low; high = omega (arith, g.high); good = g.good }

  leaving-last : {i : ℕ} → lo ≤ i → (q : ℕ) → Good i q → Leaving Good lo (i + 1) q
  leaving-last {i} l q g = record { link = i; low = l; high = omega arith; good = g }

  leaving-split : {i : ℕ} (q : ℕ) → Leaving Good lo (i + 1) q → Leaving Good lo i q ⊎ Good i q
  leaving-split {i} q g = ⊎_elim
      (λ (e : g.link ≡ i). inr (subst (λ (x : ℕ). Good x q) e g.good))
      (λ h. inl (record { link = g.link; low = g.low; high = h; good = g.good }))
      (eq-or-lt_of_le (omega (arith, g.high)))

  leaving-empty : (q : ℕ) → Leaving Good lo lo q → ⊥
  leaving-empty q g = omega (arith, g.low, g.high)

  -- of strikes
  pub leaving-none : {w : Work} → Swept (Leaving Good lo lo) w w
  leaving-none = swept_none leaving-empty

  pub leaving-more : {i : ℕ} {w v x : Work} → lo ≤ i → Swept (Leaving Good lo i) w v → Swept (Good i) v x
      → Swept (Leaving Good lo (i + 1)) w x
  leaving-more l a b = swept-append leaving-wider (leaving-last l) leaving-split a b

  -- of tests
  module _ (X : ℕ → Bool) where
    pub had-none : HasAll X (Leaving Good lo lo)
    had-none q g = absurd (leaving-empty q g)

    pub had-more : {i : ℕ} → HasAll X (Leaving Good lo i) → HasAll X (Good i) → HasAll X (Leaving Good lo (i + 1))
    had-more a b q g = ⊎_elim (a q) (b q) (leaving-split q g)

    pub had-one : {i hi : ℕ} → lo ≤ i → i < hi → HasAll X (Leaving Good lo hi) → HasAll X (Good i)
    had-one {i} l h a q g = a q (record { link = i; low = l; high = h; good = g })

-- ---- chains
-- `Good i p`: the number i makes the place p good.
module _ (key : ℕ → ℕ) (m n : ℕ) (Good : ℕ → ℕ → Type 0) where
  -- p is good by a number from lo on, below n, that has the key m.
  pub record Later (lo p : ℕ) : Type 0 where
    pub number : ℕ
    pub low : lo ≤ number
    pub below : number < n
    pub has_key : key number ≡ m
    pub good : Good number p

  -- The walk from w to v stands before the number at - 1, or at the chain's end if `at` is 0.
  pub record Walking (w v : Work) (at : ℕ) (next : List ℕ) : Type 0 where
    pub chain : Along key m n at next
    pub swept : Swept (Later at) w v

module _ {key : ℕ → ℕ} {m n : ℕ} {Good : ℕ → ℕ → Type 0} where
  -- No number from the last one below i up to i has the key.
  later-wider : (i : ℕ) (q : ℕ) → Later key m n Good i q → Later key m n Good (last_at key m i) q
  later-wider i q g = record {
    number = g.number;
    low = omega (arith, g.low, last-le key m i);
    below = g.below;
    has_key = g.has_key;
    good = g.good;
  }

  later-skip : (i : ℕ) (q : ℕ) → Later key m n Good (last_at key m i) q → Later key m n Good i q
  later-skip i q g = record {
    number = g.number;
    low = ⊎_elim
        (λ h. h)
        (λ h. absurd (last_none key m i g.number g.low h g.has_key))
        (le-or-lt i g.number);
    below = g.below;
    has_key = g.has_key;
    good = g.good;
  }

  -- The places of one number more.
  later_more : (i : ℕ) (q : ℕ) → Later key m n Good (suc i) q → Later key m n Good i q
  later_more i q g = record {
    number = g.number;
    low = omega (arith, g.low);
    below = g.below;
    has_key = g.has_key;
    good = g.good;
  }

  later-split : (i : ℕ) (q : ℕ) → Later key m n Good i q → Later key m n Good (suc i) q ⊎ Good i q
  later-split i q g = ⊎_elim
      (λ (x : i ≡ g.number). inr (subst (λ (y : ℕ). Good y q) (sym x) g.good))
      (λ h. inl (record {
        number = g.number;
        low = h;
        below = g.below;
        has_key = g.has_key;
        good = g.good;
      }))
      (eq-or-lt_of_le g.low)

  later-none : (q : ℕ) → Later key m n Good n q → ⊥
  later-none q g = omega (arith, g.low, g.below)

  pub walk_start : {w : Work} {first next : List ℕ} → Chained key first next n → m < length first
      → Walking key m n Good w w (get_or first m 0) next
  walk_start {w} s h = record {
    chain = along-start s h;
    swept = subst (λ (x : ℕ). Swept (Later key m n Good x) w w) (sym (s.heads m h))
        (swept_same (later-wider n) (later-skip n) (swept_none later-none));
  }

  module _ {w v : Work} {at : ℕ} {next : List ℕ} (s : Walking key m n Good w v at next) where
    pub walk-done : at ≡ 0 → Swept (Later key m n Good 0) w v
    walk-done e = subst (λ (x : ℕ). Swept (Later key m n Good x) w v) e s.swept

    pub walk-next : {i later : ℕ} {left : List ℕ} → Stepped at next i later left → {x : Work} → Swept (Good i) v x
        → Walking key m n Good w x later left
    walk-next {i} t {x} g = record {
      chain = along-next s.chain t;
      swept = subst (λ (y : ℕ). Swept (Later key m n Good y) w x) (sym (along-last s.chain t))
          (swept_same (later-wider i) (later-skip i)
          (swept-append (later_more i)
          (λ q h. record {
            number = i;
            low = omega arith;
            below = along-in s.chain t;
            has_key = along-key s.chain t;
            good = h;
          })
          (later-split i)
          (subst (λ (y : ℕ). Swept (Later key m n Good y) w v) (t.stood ∙ add-one i) s.swept) g));
    }

-- The links to a card are those of its chain.
module _ {script : List ℕ} {m : ℕ} {Good : ℕ → ℕ → Type 0} where
  later-arriving : (q : ℕ) → Later (to_at script) m (get_or script 1 0) Good 0 q → Arriving script m Good q
  later-arriving q g = record { link = g.number; below = g.below; leads = g.has_key; good = g.good }

  arriving-later : (q : ℕ) → Arriving script m Good q → Later (to_at script) m (get_or script 1 0) Good 0 q
  arriving-later q g = record {
    number = g.link;
    low = omega arith;
    below = g.below;
    has_key = g.leads;
    good = g.good;
  }

  pub arriving-swept : {w v : Work} → Swept (Later (to_at script) m (get_or script 1 0) Good 0) w v
      → Swept (Arriving script m Good) w v
  arriving-swept s = swept_same later-arriving arriving-later s

-- ---- walks that test a set
module _ (key : ℕ → ℕ) (m n : ℕ) (Good : ℕ → ℕ → Type 0) (X : ℕ → Bool) where
  -- The walk stands before the number at - 1, or at the chain's end if `at` is 0; the set has all that it has passed.
  pub record Testing (at : ℕ) (next : List ℕ) : Type 0 where
    pub chain : Along key m n at next
    pub had : HasAll X (Later key m n Good at)

module _ {key : ℕ → ℕ} {m n : ℕ} {Good : ℕ → ℕ → Type 0} {X : ℕ → Bool} where
  pub test-start : {first next : List ℕ} → Chained key first next n → m < length first
      → Testing key m n Good X (get_or first m 0) next
  test-start s h = record {
    chain = along-start s h;
    had = λ q g. absurd (later-none q (later-skip n q (subst (λ (x : ℕ). Later key m n Good x q) (s.heads m h) g)));
  }

  pub test-next : {at : ℕ} {next : List ℕ} → Testing key m n Good X at next → {i later : ℕ} {left : List ℕ}
      → Stepped at next i later left → HasAll X (Good i) → Testing key m n Good X later left
  test-next {at} s {i} t g = record {
    chain = along-next s.chain t;
    had = λ q k.
        ⊎_elim
        (λ l. s.had q (subst (λ (x : ℕ). Later key m n Good x q) (sym (t.stood ∙ add-one i)) l))
        (g q)
        (later-split i q (later-skip i q (subst (λ (x : ℕ). Later key m n Good x q) (along-last s.chain t) k)));
  }

module _ {script : List ℕ} {m : ℕ} {Good : ℕ → ℕ → Type 0} {X : ℕ → Bool} {at : ℕ} {next : List ℕ}
    (s : Testing (to_at script) m (get_or script 1 0) Good X at next) where
  -- at the end the set has what all links to the card make good
  pub test-done : at ≡ 0 → HasAll X (Arriving script m Good)
  test-done e q g = s.had q (subst (λ (x : ℕ). Later (to_at script) m (get_or script 1 0) Good x q) (sym e)
      (arriving-later q g))

  -- and where it has, it has what the link at which the walk stands makes good
  pub test-one : {i later : ℕ} {left : List ℕ} → Stepped at next i later left → HasAll X (Arriving script m Good)
      → HasAll X (Good i)
  test-one {i} t a q g =
      a q (record { link = i; below = along-in s.chain t; leads = along-key s.chain t; good = g })

-- The rounds on a board: what is left after each, that they end, and that the last one leaves the largest sound set.
--   after                    what is left after k rounds
--   Quiet, Noisy             the next round strikes nothing; it strikes something
--   Last                     the first round that strikes nothing
--   struck                   how many places are struck in k rounds
--   mono                     what is met under a set is met under a larger one
--   after-met, met-after     a round leaves what is met
--   under-after              every sound set is under what a round leaves
--   progress, rounds-struck  each round but the last strikes a place more
--   settles, last-unique     there is one last round, and no other
--   struck-after, after-struck              what is struck, by the positive definition
--   finished-quiet, -noisy, -is, -strikes   the search's answer is the rounds' answer
-- Assumes nothing.
use mathlib.Core.Path.{◌≡◌, refl, sym, ap, ◌∙◌, subst}
use mathlib.Core.Logic.{◌⊎◌, inl, inr, ⊎_elim}
use mathlib.Core.Bool.{Bool, true, false, not, ◌&&◌}
use Prim.Native.Nat.{ℕ, zero, suc, ◌+◌, ◌≤◌, ◌<◌}
use native.Mathlib.Nat.{not-suc-le-zero}
use native.Mathlib.Omega.{arith}
use Rattle.board.specs.Grid.{tally}
use Rattle.board.specs.Board.{Board, Lawful, Under, SoundSet, Struck, Finished}
use Rattle.words.proofs.Bools.{never_both, is_true, is_false, bools-equal, and_first, and_second, and_both}
use Rattle.words.proofs.Bools.{false_of_not, not_of_false, not-of-true, le-or-lt, last-or-below}
use Rattle.board.proofs.Tally.{tally-le, tally-lt, tally-ext, Lowest, none-or-lowest}

module _ (B : Board) where
  -- a round keeps what is met under the set as the round found it
  unfoldable pub after : ℕ → ℕ → Bool
  after zero p = true
  after (suc k) p = after k p && B.met (after k) p

  -- round k + 1 strikes nothing
  abbrev Quiet : ℕ → Type 0
  Quiet k = SoundSet B (after k)

  -- round k + 1 strikes something
  abbrev pub Noisy : ℕ → Type 0
  Noisy k = (p : ℕ) × (p < B.size) × (after k p ≡ true) × (B.met (after k) p ≡ false)

  -- the first round that strikes none is the last and is counted
  pub record Last (r : ℕ) : Type 0 where
    pub before : ℕ
    pub is : r ≡ suc before
    pub quiet : Quiet before
    pub noisy : (j : ℕ) → j < before → Noisy j

  -- how many places are struck in k rounds
  abbrev pub struck : ℕ → ℕ
  struck k = tally (λ p. not (after k p)) B.size

module _ {B : Board} (law : Lawful B) where
  -- ---- met is monotone, so a round leaves just what is met
  pub mono : (X Y : ℕ → Bool) → Under B X Y → (p : ℕ) → p < B.size → B.met X p ≡ true → B.met Y p ≡ true
  mono X Y u p l m = law.met_of Y p (law.met-ok X p m) (λ q d. u q (law.inside p q l d) (law.met-dep X p q m d))

  pub after-down : (k p : ℕ) → after B (suc k) p ≡ true → after B k p ≡ true
  unfolding after
  after-down k p h = and_first (after B k p) (B.met (after B k) p) h

  pub after-met : (k p : ℕ) → after B (suc k) p ≡ true → B.met (after B k) p ≡ true
  unfolding after
  after-met k p h = and_second (after B k p) (B.met (after B k) p) h

  pub met-after : (k p : ℕ) → p < B.size → B.met (after B k) p ≡ true → after B (suc k) p ≡ true
  unfolding after
  met-after zero p l h = h
  met-after (suc k) p l h =
      and_both (after B (suc k) p) (B.met (after B (suc k)) p)
      (met-after k p l (mono (after B (suc k)) (after B k) (λ q m t. after-down k q t) p l h)) h

  -- ---- why a place falls
  pub keep-struck : (k p : ℕ) → after B k p ≡ false → after B (suc k) p ≡ false
  keep-struck k p h = is_false (λ t. never_both (after-down k p t) h)

  strike-ok : (k p : ℕ) → B.ok p ≡ false → after B (suc k) p ≡ false
  strike-ok k p h = is_false (λ t. never_both (law.met-ok (after B k) p (after-met k p t)) h)

  strike-dep : (k p q : ℕ) → B.Dep p q → after B k q ≡ false → after B (suc k) p ≡ false
  strike-dep k p q d h = is_false (λ t. never_both (law.met-dep (after B k) p q (after-met k p t) d) h)

  struck-why : (k p : ℕ) → p < B.size → after B (suc k) p ≡ false
      → (B.ok p ≡ false) ⊎ ((q : ℕ) × B.Dep p q × (after B k q ≡ false))
  struck-why k p l h = law.unmet (after B k) p (is_false (λ t. never_both (met-after k p l t) h))

  -- ---- the largest: every sound set is under what each round leaves
  pub under-after : (X : ℕ → Bool) → SoundSet B X → (k : ℕ) → Under B X (after B k)
  unfolding after
  under-after X s zero p l h = refl
  under-after X s (suc k) p l h = met-after k p l (mono X (after B k) (under-after X s k) p l (s p l h))

  -- ---- each round but the last strikes one more place, so they end
  pub quiet-or-noisy : (k : ℕ) → Quiet B k ⊎ Noisy B k
  quiet-or-noisy k = by-lowest (none-or-lowest falls B.size)
    where
      falls : ℕ → Bool
      falls p = after B k p && not (B.met (after B k) p)

      by-lowest : ((i : ℕ) → i < B.size → falls i ≡ false) ⊎ Lowest falls B.size → Quiet B k ⊎ Noisy B k
      by-lowest (inl none) = inl (λ p l t. is_true (λ m.
          never_both (and_both (after B k p) (not (B.met (after B k) p)) t (not_of_false m)) (none p l)))
      by-lowest (inr r) =
          let p = r.number in
          let both = r.passes in
          inr (
            p,
            r.below,
            and_first (after B k p) (not (B.met (after B k) p)) both,
            false_of_not (and_second (after B k p) (not (B.met (after B k) p)) both),
          )

  progress : (k : ℕ) → Noisy B k → struck B k < struck B (suc k)
  progress k n =
      tally-lt (λ p. not (after B k p)) (λ p. not (after B (suc k) p)) B.size n.0 n.1 (not-of-true n.2)
      (not_of_false (is_false (λ t. never_both (after-met k n.0 t) n.3)))
      (λ i l h. not_of_false (keep-struck k i (false_of_not h)))

  pub rounds-struck : (k : ℕ) → ((j : ℕ) → j < k → Noisy B j) → k ≤ struck B k
  rounds-struck zero f = omega arith
  rounds-struck (suc k) f = omega (arith, rounds-struck k (λ j l. f j (omega arith)), progress k (f k (omega arith)))

  -- the first quiet round from k on, where all before it are noisy; more rounds than places cannot be
  seek : (fuel k : ℕ) → B.size < fuel + k → ((j : ℕ) → j < k → Noisy B j)
      → (m : ℕ) × Quiet B m × ((j : ℕ) → j < m → Noisy B j)
  seek zero k l f = absurd (omega (arith, rounds-struck k f, tally-le (λ p. not (after B k p)) B.size))
  seek (suc fuel) k l f = by-round (quiet-or-noisy k) (seek fuel (suc k) (omega arith))
    where
      by-round : Quiet B k ⊎ Noisy B k
          → (((j : ℕ) → j < suc k → Noisy B j) → (m : ℕ) × Quiet B m × ((j : ℕ) → j < m → Noisy B j))
          → (m : ℕ) × Quiet B m × ((j : ℕ) → j < m → Noisy B j)
      by-round (inl q) rest = (k, q, f)
      by-round (inr n) rest = rest (λ j h. ⊎_elim
          (λ (e : j ≡ k). subst (λ (x : ℕ). Noisy B x) (sym e) n) (λ m. f j m) (last-or-below h))

  pub settles : (r : ℕ) × Last B r
  settles =
      let s = seek (suc B.size) 0 (omega arith) (λ j l. absurd (not-suc-le-zero l)) in
      (suc s.0, record { before = s.0; is = refl; quiet = s.1; noisy = s.2 })

  pub quiet-not-noisy : (k : ℕ) → Quiet B k → Noisy B k → ⊥
  quiet-not-noisy k q n = never_both (q n.0 n.1 n.2) n.3

  not-later : (a b : ℕ) → Quiet B a → ((j : ℕ) → j < b → Noisy B j) → b ≤ a
  not-later a b q f = ⊎_elim (λ h. h) (λ h. absurd (quiet-not-noisy a q (f a h))) (le-or-lt b a)

  pub last-unique : (r s : ℕ) → Last B r → Last B s → r ≡ s
  last-unique r s x y = omega (
    arith,
    x.is,
    y.is,
    not-later x.before y.before x.quiet y.noisy,
    not-later y.before x.before y.quiet x.noisy,
  )

  -- ---- what is struck, by the positive definition
  struck-after : (k p : ℕ) → Struck B k p → after B k p ≡ false
  struck-after zero p s = absurd s
  struck-after (suc k) p (inl o) = strike-ok k p o
  struck-after (suc k) p (inr w) = strike-dep k p w.0 w.1 (struck-after k w.0 w.2)

  after-struck : (k p : ℕ) → p < B.size → after B k p ≡ false → Struck B k p
  unfolding after
  after-struck zero p l e = never_both refl e
  after-struck (suc k) p l e = by-reason (struck-why k p l e) (after-struck k)
    where
      by-reason : (B.ok p ≡ false) ⊎ ((q : ℕ) × B.Dep p q × (after B k q ≡ false))
          → ((q : ℕ) → q < B.size → after B k q ≡ false → Struck B k q) → Struck B (suc k) p
      by-reason (inl o) earlier = inl o
      by-reason (inr w) earlier = inr (w.0, w.1, earlier w.0 (law.inside p w.0 l w.1) w.2)

  -- ---- the search's answer is the rounds' answer
  module _ {X : ℕ → Bool} {strikes rounds : ℕ} (f : Finished B X strikes rounds) where
    pub finished-quiet : Quiet B rounds
    finished-quiet p l t = is_true (λ m. never_both t (struck-after rounds p (f.quiet p l
        (after-struck (suc rounds) p l (is_false (λ a. never_both (after-met rounds p a) m))))))

    pub finished-noisy : (j : ℕ) → j < rounds → Noisy B j
    finished-noisy j h =
        let n = f.noisy j h in (
          n.0,
          n.1,
          is_true (λ e. n.3 (after-struck j n.0 n.1 e)),
          is_false (λ t. never_both (met-after j n.0 n.1 t) (struck-after (suc j) n.0 n.2)),
        )

    pub finished-is : (p : ℕ) → p < B.size → X p ≡ after B rounds p
    finished-is p l = bools-equal
        (λ t. is_true (λ e. never_both t (f.all-struck p l (after-struck rounds p l e))))
        (λ e. struck-after rounds p (f.only-struck p l e))

    pub finished-strikes : strikes ≡ struck B rounds
    finished-strikes =
        f.count
        ∙ tally-ext (λ p. not (X p)) (λ p. not (after B rounds p)) B.size (λ p l. ap not (finished-is p l))

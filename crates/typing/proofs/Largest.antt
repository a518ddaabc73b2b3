-- The largest typing: there is one, it is one, and every sound set is below it.
--   largest-of      what the board's rounds leave is the largest
--   largest-is, largest-last   it is what they leave, after their last round
--   largest-over    every sound set is below it
--   largest-bound   rounds are at most one more than the pairs struck
--   largest-unique  its rounds, its strikes and its pairs are determined
--   some-largest    there is one
--   bare_alike      sets that agree leave as many cards with some link and no shape
--   largest-answer, largest-found   what the search finds is the largest
-- Assumes nothing.
use Prim.Native.Nat.{ℕ, suc, ◌+◌, ◌≤◌}
use mathlib.Core.Path.{◌≡◌, refl, sym, ap, ◌∙◌, subst}
use mathlib.Core.Logic.{⊎_elim}
use mathlib.Core.Bool.{Bool, ◌&&◌}
use mathlib.Core.List.{List, [], ◌∷◌}
use native.Mathlib.Omega.{arith}
use lib.Dec.{eqb}
use Rattle.board.specs.Grid.{on}
use Rattle.board.specs.Board.{Board, Finished}
use Rattle.board.proofs.Tally.{tally-ext}
use Rattle.board.proofs.Rounds.{after, Last, struck, quiet-or-noisy, quiet-not-noisy, rounds-struck, under-after}
use Rattle.board.proofs.Rounds.{settles, last-unique, finished-quiet, finished-noisy, finished-is, finished-strikes}
use Rattle.words.specs.Said.{values}
use Rattle.script.specs.Link.{linked}
use Rattle.sheet.specs.Sheet.{Sheet, place}
use Rattle.typing.specs.Typing.{Pairs, Sound, Below, Typing}
use Rattle.typing.specs.Largest.{Largest, bare, bare_cards}
use Rattle.typing.specs.Calls.{LargestFound}
use Rattle.typing.proofs.Represents.{Represents, Alike, on-board, pair-in, sound-set, set-sound, set-alike}
use Rattle.typing.proofs.Rounds.{rounds-after, rounds-only, rounds-alike}

module _ {s : Sheet} {B : Board} (rep : Represents s B) where
  pub largest-of : {r : ℕ} (w : Last B r) (X : Pairs) → Alike s (after B w.before) X
      → Largest s r (struck B w.before) X
  largest-of w X e = record {
    before = w.before;
    counted = w.is;
    reached = rounds-alike rep e (rounds-after rep w.before);
    last = set-sound rep X (set-alike rep (after B w.before) X e w.quiet);
    first = λ j m Y l r h. quiet-not-noisy rep.lawful j
        (set-alike rep Y (after B j) (rounds-only rep r).0 (sound-set rep Y h)) (w.noisy j l);
  }

  module _ {r m : ℕ} {X : Pairs} (a : Largest s r m X) where
    largest-is : Alike s X (after B a.before)
    largest-is = (rounds-only rep a.reached).0

    -- no round before the last is quiet
    largest-last : Last B r
    largest-last = record {
      before = a.before;
      is = a.counted;
      quiet = set-alike rep X (after B a.before) largest-is (sound-set rep X a.last);
      noisy = λ j l. ⊎_elim
          (λ q. absurd (a.first j (struck B j) (after B j) l (rounds-after rep j) (set-sound rep (after B j) q)))
          (λ n. n)
          (quiet-or-noisy rep.lawful j);
    }

    pub largest-over : (Y : Pairs) → Sound s Y → Below s Y X
    largest-over Y h n t ln lt e =
        let p = place s n t in
        let l = pair-in rep n t ln lt in
        largest-is p l ∙ under-after rep.lawful Y (sound-set rep Y h) a.before p (on-board rep l) e

    pub largest-bound : r ≤ m + 1
    unfolding largest-last
    largest-bound = omega (
      arith,
      a.counted,
      (rounds-only rep a.reached).1,
      rounds-struck rep.lawful a.before largest-last.noisy,
    )

  pub largest-unique : {r m q k : ℕ} {X Y : Pairs} → Largest s r m X → Largest s q k Y
      → (r ≡ q) × (m ≡ k) × Alike s X Y
  largest-unique {r} {m} {q} {k} {X} {Y} a b = (
    same-rounds,
    (rounds-only rep a.reached).1 ∙ ap (λ (j : ℕ). struck B j) same-before ∙ sym (rounds-only rep b.reached).1,
    λ p l. largest-is a p l ∙ ap (λ (j : ℕ). after B j p) same-before ∙ sym (largest-is b p l),
  )
    where
      same-rounds : r ≡ q
      same-rounds = last-unique rep.lawful r q (largest-last a) (largest-last b)

      same-before : a.before ≡ b.before
      same-before = omega (arith, a.counted, b.counted, same-rounds)

  pub some-largest : (r : ℕ) × (m : ℕ) × (X : Pairs) × Largest s r m X
  some-largest =
      let (r, w) = settles rep.lawful in
      (r, struck B w.before, after B w.before, largest-of w (after B w.before) (λ p l. refl))

  pub bare_alike : (X Y : Pairs) → Alike s X Y → bare_cards s X ≡ bare_cards s Y
  unfolding bare bare_cards
  bare_alike X Y e =
      let touched : ℕ → Bool = λ n. linked s.script n s.links in
      tally-ext (λ n. touched n && bare s X n) (λ n. touched n && bare s Y n) s.cards
      (λ n ln. ap (λ (shapes : ℕ). touched n && eqb shapes 0)
      (tally-ext (λ t. X (place s n t)) (λ t. Y (place s n t)) s.shapes
      (λ t lt. e (place s n t) (pair-in rep n t ln lt))))

  -- the search for the rounds is over: one round more than those that struck something
  largest-answer : {X : Pairs} {striking strikes : ℕ} → Finished B X strikes striking
      → Largest s (suc striking) strikes X
  largest-answer {X} {striking} {strikes} f =
      let over : Last B (suc striking) = record {
        before = striking;
        is = refl;
        quiet = finished-quiet rep.lawful f;
        noisy = finished-noisy rep.lawful f;
      } in
      subst (λ (m : ℕ). Largest s (suc striking) m X) (sym (finished-strikes rep.lawful f))
      (largest-of over X (λ p l. sym (finished-is rep.lawful f p (on-board rep l))))

  pub largest-found : (grid : List ℕ) (rounds striking strikes bares : ℕ) → Typing s grid
      → rounds ≡ suc striking → Finished B (on grid) strikes striking → bares ≡ bare_cards s (on grid)
      → LargestFound s grid (values (rounds ∷ strikes ∷ bares ∷ []))
  largest-found grid rounds striking strikes bares typed one_more f counted = record {
    rounds = rounds;
    struck = strikes;
    bare = bares;
    says = refl;
    typing = typed;
    largest = subst (λ (r : ℕ). Largest s r strikes (on grid)) (sym one_more) (largest-answer f);
    counted = counted;
  }

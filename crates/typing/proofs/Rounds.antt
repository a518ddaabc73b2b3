-- The rounds of a sheet are the board's: so many rounds from every pair lead to one set, and strike so many pairs.
--   rounds-after   the board's rounds are rounds of the sheet
--   rounds-only    and there are no others
--   rounds-alike   a set that agrees with one that the rounds lead to is one too
-- Assumes nothing.
use Prim.Native.Nat.{ℕ, zero, suc, ◌+◌}
use mathlib.Core.Path.{◌≡◌, refl, sym, ap, ◌∙◌, subst}
use mathlib.Core.Bool.{true, not, ◌&&◌}
use Rattle.board.specs.Grid.{tally}
use Rattle.board.specs.Board.{Board}
use Rattle.words.proofs.Bools.{never_both, is_false, bools-equal}
use Rattle.board.proofs.Tally.{tally-ext, tally-none, tally-split}
use Rattle.board.proofs.Rounds.{after, struck, after-down, after-met, met-after, keep-struck}
use Rattle.sheet.specs.Sheet.{Sheet, place, size}
use Rattle.typing.specs.Typing.{Pairs}
use Rattle.typing.specs.Largest.{Round, gone, Rounds, start, more}
use Rattle.typing.proofs.Represents.{Represents, Alike, on-board, pair-in, each-place, met-alike}

module _ {s : Sheet} {B : Board} (rep : Represents s B) where
  round-after : (k : ℕ) → Round s (after B k) (after B (suc k))
  round-after k = record {
    keeps = λ n t ln lt e m.
        met-after rep.lawful k (place s n t) (on-board rep (pair-in rep n t ln lt))
        ((rep.met-exact (after B k) n t ln lt).1 m);
    strikes = λ n t ln lt unmet. is_false (λ e.
        unmet ((rep.met-exact (after B k) n t ln lt).0 (after-met rep.lawful k (place s n t) e)));
    stays = λ n t ln lt e. keep-struck rep.lawful k (place s n t) e;
  }

  more-struck : (k : ℕ) → struck B (suc k) ≡ struck B k + gone s (after B k) (after B (suc k))
  more-struck k = subst
      (λ (z : ℕ). struck B (suc k) ≡ struck B k + tally (λ p. after B k p && not (after B (suc k) p)) z) rep.sized
      (tally-split (after B k) (after B (suc k)) B.size (λ p l e. after-down rep.lawful k p e))

  none-struck : struck B 0 ≡ 0
  unfolding after
  none-struck = tally-none (λ p. not (after B 0 p)) B.size (λ p l. refl)

  pub rounds-after : (k : ℕ) → Rounds s k (struck B k) (after B k)
  unfolding after
  rounds-after zero = subst (λ (m : ℕ). Rounds s 0 m (after B 0)) (sym none-struck) (start (λ n t ln lt. refl))
  rounds-after (suc k) =
      subst (λ (m : ℕ). Rounds s (suc k) m (after B (suc k))) (sym (more-struck k))
      (more (rounds-after k) (round-after k))

  -- a round from a set that agrees with what k rounds leave leads to what the next one leaves
  round-only : (k : ℕ) (X Y : Pairs) → Alike s X (after B k) → Round s X Y → Alike s Y (after B (suc k))
  round-only k X Y e w = each-place rep (λ p. Y p ≡ after B (suc k) p) (λ n t ln lt.
      let p = place s n t in
      let l = pair-in rep n t ln lt in
      sym (bools-equal
      (λ stands. w.keeps n t ln lt (e p l ∙ after-down rep.lawful k p stands)
      ((rep.met-exact X n t ln lt).0
      (met-alike rep (after B k) X (λ q lq. sym (e q lq)) p l (after-met rep.lawful k p stands))))
      (λ falls. w.strikes n t ln lt (λ m. never_both
      (met-after rep.lawful k p (on-board rep l)
      (met-alike rep X (after B k) e p l ((rep.met-exact X n t ln lt).1 m)))
      falls))))

  gone-alike : (X X' Y Y' : Pairs) → Alike s X X' → Alike s Y Y' → gone s X Y ≡ gone s X' Y'
  gone-alike X X' Y Y' e f =
      tally-ext (λ p. X p && not (Y p)) (λ p. X' p && not (Y' p)) (size s) (λ p l. rw (e p l, f p l))

  pub rounds-only : {k m : ℕ} {X : Pairs} → Rounds s k m X → Alike s X (after B k) × (m ≡ struck B k)
  unfolding after
  rounds-only (start {X} h) = (each-place rep (λ p. X p ≡ true) h, sym none-struck)
  rounds-only (more {k} {m} {X} {Y} r w) =
      let (e, c) = rounds-only r in
      let f = round-only k X Y e w in (
        f,
        ap (λ (x : ℕ). x + gone s X Y) c
            ∙ ap (λ (x : ℕ). struck B k + x) (gone-alike X (after B k) Y (after B (suc k)) e f)
            ∙ sym (more-struck k),
      )

  round-alike : (X Y Z : Pairs) → Alike s Y Z → Round s X Y → Round s X Z
  round-alike X Y Z e w = record {
    keeps = λ n t ln lt a b. sym (e (place s n t) (pair-in rep n t ln lt)) ∙ w.keeps n t ln lt a b;
    strikes = λ n t ln lt a. sym (e (place s n t) (pair-in rep n t ln lt)) ∙ w.strikes n t ln lt a;
    stays = λ n t ln lt a. sym (e (place s n t) (pair-in rep n t ln lt)) ∙ w.stays n t ln lt a;
  }

  pub rounds-alike : {k m : ℕ} {X Y : Pairs} → Alike s X Y → Rounds s k m X → Rounds s k m Y
  rounds-alike e (start h) = start (λ n t ln lt. sym (e (place s n t) (pair-in rep n t ln lt)) ∙ h n t ln lt)
  rounds-alike {Y = Z} e (more {k} {m} {X} {Y} r w) =
      subst (λ (x : ℕ). Rounds s (suc k) (m + x) Z) (gone-alike X X Z Y (λ p l. refl) (λ p l. sym (e p l)))
      (more r (round-alike X Y Z e w))

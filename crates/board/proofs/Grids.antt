-- A grid's places.
--   on-yes, on-no, on-byte, on_same   the test of a byte
--   on-set-same, on-set-other         after a byte is set to 0
--   marks-set                         grids whose bytes are 0 or 1
-- Assumes nothing.
use mathlib.Core.Path.{◌≡◌, ap, ◌∙◌}
use mathlib.Core.Logic.{◌⊎◌, inl, inr, ⊎_elim, ◌≢◌}
use mathlib.Core.List.{List}
use mathlib.Core.Bool.{true, false}
use Prim.Native.Nat.{ℕ, ◌<◌}
use native.Mathlib.Omega.{arith}
use lib.Dec.{eqb}
use lib.ListN.{length, get_or, set, length-set}
use lib.Seq.{get_or-set_same, get_or-set_other}
use borrow.Author.Tests.{eqb-true, eq-eqb, ne_eqb}
use Rattle.board.specs.Grid.{on}
use Rattle.board.specs.Machine.{Marks}
use Rattle.words.proofs.Bools.{eq-or-ne}

-- ---- the test of a byte
pub on-yes : (g : List ℕ) (p : ℕ) → get_or g p 0 ≡ 1 → on g p ≡ true
unfolding on
on-yes g p e = eq-eqb (get_or g p 0) 1 e

pub on-no : (g : List ℕ) (p : ℕ) → (get_or g p 0 ≡ 1 → ⊥) → on g p ≡ false
unfolding on
on-no g p e = ne_eqb (get_or g p 0) 1 e

pub on-byte : (g : List ℕ) (p : ℕ) → on g p ≡ true → get_or g p 0 ≡ 1
unfolding on
on-byte g p e = eqb-true (get_or g p 0) 1 e

-- bytes that are the same are tested the same
pub on_same : (g h : List ℕ) (p : ℕ) → get_or g p 0 ≡ get_or h p 0 → on g p ≡ on h p
unfolding on
on_same g h p e = ap (λ (x : ℕ). eqb x 1) e

-- ---- a byte set to 0
pub on-set-same : (g : List ℕ) (p : ℕ) → p < length g → on (set g p 0) p ≡ false
on-set-same g p l = on-no (set g p 0) p (λ e. absurd (omega (arith, e, get_or-set_same g p 0 0 l)))

pub on-set-other : (g : List ℕ) (p q : ℕ) → q ≢ p → on (set g p 0) q ≡ on g q
on-set-other g p q ne = on_same (set g p 0) g q (get_or-set_other g p q 0 0 ne)

-- ---- grids whose bytes are 0 or 1
pub marks-set : (g : List ℕ) (p : ℕ) → Marks g → Marks (set g p 0)
marks-set g p m q l = by_place (eq-or-ne q p)
  where
    inside : q < length g
    inside = omega (arith, length-set g p 0)

    by_place : (q ≡ p) ⊎ (q ≢ p) → (get_or (set g p 0) q 0 ≡ 0) ⊎ (get_or (set g p 0) q 0 ≡ 1)
    by_place (inl e) = inl (rw e (get_or-set_same g p 0 0 (omega (arith, e, inside))))
    by_place (inr ne) =
        let same = get_or-set_other g p q 0 0 ne in ⊎_elim (λ z. inl (same ∙ z)) (λ o. inr (same ∙ o)) (m q inside)

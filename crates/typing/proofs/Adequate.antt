-- The definitions of the typings are decided, and their rounds are those of docs/FORMAT.md, "Largest".
--   met-decided    for every sheet that is read, each pair is met under a set of pairs, or it is not
--   round-alike-sound, round-quiet   a round strikes nothing exactly if its set is sound
-- No board is a premise: every sheet that is read has one (Existence).
-- Assumes nothing.
use Prim.Native.Nat.{ℕ, ◌<◌}
use mathlib.Core.Path.{◌≡◌, sym, ◌∙◌}
use mathlib.Core.Logic.{◌⊎◌, inl, inr, ⊎_elim, ◌↔◌}
use mathlib.Core.List.{List}
use mathlib.Core.Bool.{Bool, not, ◌&&◌}
use native.Mathlib.Omega.{arith}
use Rattle.board.specs.Board.{Board}
use Rattle.board.specs.Grid.{tally}
use Rattle.board.proofs.Tally.{tally-none, tally-pos}
use Rattle.words.specs.Reading.{accepted}
use Rattle.words.proofs.Bools.{never_both, true-or-false, and_first, and_second, and_both, false_of_not, not_of_false}
use Rattle.words.proofs.Bools.{is_false}
use Rattle.sheet.specs.Sheet.{Sheet, place, size, read_sheet}
use Rattle.typing.specs.Typing.{Pairs, Met, Sound}
use Rattle.typing.specs.Largest.{Round, gone}
use Rattle.typing.proofs.Represents.{Represents, Alike, pair-in, each-place}
use Rattle.typing.proofs.Existence.{represented}

-- ---- with a board that stands for the sheet
module _ {s : Sheet} {B : Board} (rep : Represents s B) where
  decided : (X : Pairs) (n t : ℕ) → n < s.cards → t < s.shapes → Met s X n t ⊎ (Met s X n t → ⊥)
  decided X n t ln lt = ⊎_elim
      (λ m. inl ((rep.met-exact X n t ln lt).0 m))
      (λ f. inr (λ m. never_both ((rep.met-exact X n t ln lt).1 m) f))
      (true-or-false (B.met X (place s n t)))

  module _ {X Y : Pairs} (w : Round s X Y) where
    alike-sound : Alike s X Y → Sound s X
    alike-sound e n t ln lt h = ⊎_elim
        (λ m. m)
        (λ f. never_both (sym (e (place s n t) (pair-in rep n t ln lt)) ∙ h) (w.strikes n t ln lt f))
        (decided X n t ln lt)

    sound-alike : Sound s X → Alike s X Y
    sound-alike h = each-place rep (λ p. X p ≡ Y p) (λ n t ln lt. ⊎_elim
        (λ e. e ∙ sym (w.keeps n t ln lt e (h n t ln lt e)))
        (λ e. e ∙ sym (w.stays n t ln lt e))
        (true-or-false (X (place s n t))))

    -- the test that `gone` counts
    struck : ℕ → Bool
    struck p = X p && not (Y p)

    quiet-sound : gone s X Y ≡ 0 → Sound s X
    unfolding struck
    quiet-sound none n t ln lt h = ⊎_elim
        (λ m. m)
        (λ f.
        let some : 0 < tally struck (size s) =
        tally-pos struck (size s) (place s n t) (pair-in rep n t ln lt)
        (and_both (X (place s n t)) (not (Y (place s n t))) h (not_of_false (w.strikes n t ln lt f))) in
        absurd (omega (arith, none, some)))
        (decided X n t ln lt)

    sound-quiet : Sound s X → gone s X Y ≡ 0
    unfolding struck
    sound-quiet h = tally-none struck (size s) (λ p l. is_false (λ e. never_both
        (sym (sound-alike h p l) ∙ and_first (X p) (not (Y p)) e)
        (false_of_not (and_second (X p) (not (Y p)) e))))

-- ---- for every sheet that is read
module _ (template script : List ℕ) (s : Sheet) (read : read_sheet template script ≡ accepted s) where
  pub met-decided : (X : Pairs) (n t : ℕ) → n < s.cards → t < s.shapes → Met s X n t ⊎ (Met s X n t → ⊥)
  met-decided = decided (represented template script s read).1

  -- The sets before and after a round have the same pairs exactly if the set before is sound.
  round-alike-sound : (X Y : Pairs) → Round s X Y → Alike s X Y ↔ Sound s X
  round-alike-sound X Y w =
      let rep = (represented template script s read).1 in
      (alike-sound rep w, sound-alike rep w)

  -- A round strikes no pair exactly if its set is sound: the definition of the last round.
  pub round-quiet : (X Y : Pairs) → Round s X Y → (gone s X Y ≡ 0) ↔ Sound s X
  round-quiet X Y w =
      let rep = (represented template script s read).1 in
      (quiet-sound rep w, sound-quiet rep w)

-- What testing a grid finds is its verdict.
--   over-found                   a byte that is over 1
--   unmet-found, sound-by        a pair that is not met; where there is none the grid is sound
--   unheld-found, passes-found   a booking that is not held; where there is none the grid passes
--   unmet-tested, unheld-tested, passes-tested   the same of a sheet whose pairs are tested
-- Assumes nothing.
use Prim.Native.Nat.{ℕ, ◌*◌, ◌/◌, ◌%◌, ◌<◌}
use mathlib.Core.Path.{◌≡◌, refl, sym, subst, subst₂}
use mathlib.Core.Bool.{Bool, true}
use mathlib.Core.List.{List, [], ◌∷◌}
use native.Mathlib.Omega.{arith}
use lib.ListN.{length, get_or}
use Rattle.words.specs.First.{First}
use Rattle.words.specs.Said.{values, refusal}
use Rattle.words.proofs.Bools.{never_both, is_true}
use Rattle.words.proofs.Places.{card-in, shape-in, place_of}
use Rattle.board.specs.Grid.{on}
use Rattle.board.specs.Machine.{Marks}
use Rattle.sheet.specs.Sheet.{Sheet, place, size}
use Rattle.sheet.specs.declared.Extent.{Extent}
use Rattle.bookings.specs.Bookings.{card_index}
use Rattle.typing.specs.Needs.{met_test, board_of}
use Rattle.typing.specs.Typing.{Has, Met, Typing, SoundTyping}
use Rattle.typing.specs.Judge.{over, unmet, unheld, passes, JudgeFound}
use Rattle.typing.proofs.Represents.{Represents, pair-in}
use Rattle.judging.specs.Judging.{Failing, Missing}
use Rattle.pairs.specs.Pairs.{SheetTested}
use Rattle.pairs.proofs.Tested.{cards-same, shapes-same, stands}

pub over-found : (grid : List ℕ) {p : ℕ} → (p < length grid) × First (λ q. 1 < get_or grid q 0) (length grid) p
    → {s : Sheet} {bookings : List ℕ} {desk : ℕ} → length grid ≡ size s
    → JudgeFound s bookings desk grid (refusal 61 (p ∷ []))
over-found grid {p} (l, found) full = record {
  verdict = over p;
  says = refl;
  right = record {
    inside = omega (arith, full);
    over-one = found.here l;
    first = λ q lq. omega (arith, found.before q lq);
  };
}

module _ {s : Sheet} {script names : List ℕ} (fitting : List ℕ) {grid : List ℕ}
    (rep : Represents s (board_of script names s.shapes fitting)) (typed : Typing s grid) where
  -- the test of the board
  abbrev test : ℕ → Bool
  test q = met_test script names s.shapes fitting (on grid) q

  -- p is the lowest that is found
  abbrev FirstUnmet : ℕ → Type 0
  FirstUnmet p = First (Failing script names s.shapes fitting grid) (length grid) p

  -- a pair that the grid has below it is met
  met-before : {p : ℕ} → FirstUnmet p → (n t : ℕ) → n < s.cards → t < s.shapes → place s n t < p
      → Has s (on grid) n t → Met s (on grid) n t
  met-before found n t ln lt l has =
      (rep.met-exact (on grid) n t ln lt).0 (is_true (λ f. found.before (place s n t) l (has, f)))

  unmet-found : {p : ℕ} → p < length grid → FirstUnmet p → {bookings : List ℕ} {desk : ℕ}
      → JudgeFound s bookings desk grid (refusal 62 (p / s.shapes ∷ p % s.shapes ∷ []))
  unmet-found {p} l found = record {
    verdict = unmet (p / s.shapes) (p % s.shapes);
    says = refl;
    right = record {
      typing = typed;
      card-in = card;
      shape-in = shape;
      has = subst (λ (q : ℕ). on grid q ≡ true) (sym here) (found.here l).0;
      not-met = λ m. never_both
          (subst (λ (q : ℕ). test q ≡ true) here ((rep.met-exact (on grid) _ _ card shape).1 m)) (found.here l).1;
      lowest = λ m u lm lu low. met-before found m u lm lu (omega (arith, low, here));
    };
  }
    where
      here : place s (p / s.shapes) (p % s.shapes) ≡ p
      here = place_of s.shapes rep.one-shape p

      card : p / s.shapes < s.cards
      card = card-in s.shapes rep.one-shape s.cards p (omega (arith, typed.full))

      shape : p % s.shapes < s.shapes
      shape = shape-in s.shapes rep.one-shape p

  sound-by : FirstUnmet (length grid) → SoundTyping s grid
  sound-by none = record {
    typing = typed;
    sound = λ n t ln lt. met-before none n t ln lt (omega (arith, pair-in rep n t ln lt, typed.full));
  }

module _ {s : Sheet} {bookings : List ℕ} {desk : ℕ} {grid : List ℕ} (sound : SoundTyping s grid) {count : ℕ}
    (counted : count ≡ get_or bookings 0 0) where
  unheld-found : {i : ℕ} → i < count → First (Missing bookings desk s.shapes grid) count i
      → JudgeFound s bookings desk grid (refusal 63 (card_index i ∷ []))
  unheld-found {i} l found = record {
    verdict = unheld i;
    says = refl;
    right = record {
      sound = sound;
      listed = omega (arith, counted);
      ours = (found.here l).0;
      missing = (found.here l).1;
      first = λ j lj ours. is_true (λ off. found.before j lj (ours, off));
    };
  }

  passes-found : First (Missing bookings desk s.shapes grid) count count → JudgeFound s bookings desk grid (values [])
  passes-found none = record {
    verdict = passes;
    says = refl;
    right = record {
      sound = sound;
      holds = λ n t b.
          subst₂ (Has s (on grid)) b.card b.shape
          (is_true (λ off. none.before b.booking (omega (arith, b.listed, counted)) (b.ours, off)));
    };
  }

-- ---- of a sheet whose pairs are tested
module _ {s : Sheet} {script names : List ℕ} {e : Extent} {fitting : List ℕ} (t : SheetTested s script names e fitting)
    (bookings : List ℕ) (desk : ℕ) (grid : List ℕ) (marks : Marks grid) (full : length grid ≡ e.cards * e.shapes)
  where
    board : Represents s (board_of script names s.shapes fitting)
    board = subst (λ (n : ℕ). Represents s (board_of script names n fitting)) (sym (shapes-same t)) (stands t)

    typed : Typing s grid
    typed =
        let whole : length grid ≡ size s = rw (cards-same t, shapes-same t) full in
        record { full = whole; bytes = λ q l. marks q (omega (arith, whole)) }

    pub unmet-tested : {p : ℕ} → (p < length grid) × First (Failing script names e.shapes fitting grid) (length grid) p
        → JudgeFound s bookings desk grid (refusal 62 (p / e.shapes ∷ p % e.shapes ∷ []))
    unmet-tested {p} (l, found) =
        subst (λ (n : ℕ). JudgeFound s bookings desk grid (refusal 62 (p / n ∷ p % n ∷ []))) (shapes-same t)
        (unmet-found fitting board typed l (rw (shapes-same t) found))

    module _ (none : First (Failing script names e.shapes fitting grid) (length grid) (length grid)) {count : ℕ}
        (counted : count ≡ get_or bookings 0 0) where
      sound : SoundTyping s grid
      sound = sound-by fitting board typed (rw (shapes-same t) none)

      missing-here : {i : ℕ} → First (Missing bookings desk e.shapes grid) count i
          → First (Missing bookings desk s.shapes grid) count i
      missing-here missing = rw (shapes-same t) missing

      pub unheld-tested : {i : ℕ} → (i < count) × First (Missing bookings desk e.shapes grid) count i
          → JudgeFound s bookings desk grid (refusal 63 (card_index i ∷ []))
      unheld-tested (l, found) = unheld-found sound counted l (missing-here found)

      pub passes-tested : First (Missing bookings desk e.shapes grid) count count
          → JudgeFound s bookings desk grid (values [])
      passes-tested missing = passes-found sound counted (missing-here missing)

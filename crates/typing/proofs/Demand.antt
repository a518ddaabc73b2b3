-- What holds of the two typings together, from the answers of the two calls.
--   demand-3    it holds of the grids and the numbers that the two calls leave
--   both_found  the two answers together are the answer of the call for both
-- Assumes nothing.
use Prim.Native.Nat.{ℕ, ◌<◌}
use mathlib.Core.Path.{◌≡◌, ◌∙◌}
use mathlib.Core.Logic.{◌↔◌}
use mathlib.Core.List.{List}
use mathlib.Core.Bool.{false}
use native.Mathlib.Omega.{arith}
use Rattle.board.specs.Grid.{on}
use Rattle.board.specs.Board.{Board}
use Rattle.words.proofs.Bools.{never_both, is_false}
use Rattle.board.proofs.Tally.{tally-ext}
use Rattle.words.specs.Said.{Said}
use Rattle.sheet.specs.Sheet.{Sheet, place, size}
use Rattle.typing.specs.Typing.{Pairs, SoundTyping}
use Rattle.typing.specs.Largest.{Largest, bare_cards}
use Rattle.typing.specs.Smallest.{Accepted, TurnedDown}
use Rattle.typing.specs.Demand3.{Outcome, pairs, not_met, Demand3}
use Rattle.typing.specs.Answer.{BothSaid}
use Rattle.typing.specs.Calls.{LargestFound, SmallestFound, BothFound, Leaves}
use Rattle.typing.proofs.Represents.{Represents}
use Rattle.typing.proofs.Largest.{largest-over, largest-bound, largest-unique, some-largest, bare_alike}
use Rattle.typing.proofs.Smallest.{BookedIn, accepted-sound, accepted-holds, turned-down-never, sound-over}
use Rattle.typing.proofs.Smallest.{closure-unique}

module _ {s : Sheet} {B : Board} (rep : Represents s B) {large : List ℕ} {said : Said}
    (found : LargestFound s large said) where
  large-typing : SoundTyping s large
  large-typing = record { typing = found.typing; sound = found.largest.last }

  no-shape-exact : (n : ℕ) → n < s.cards
      → ((t : ℕ) → t < s.shapes → on large (place s n t) ≡ false)
      ↔ ((h : List ℕ) → SoundTyping s h → (t : ℕ) → t < s.shapes → on h (place s n t) ≡ false)
  no-shape-exact n ln = (
    λ none h w t lt. is_false (λ e.
        never_both (largest-over rep found.largest (on h) w.sound n t ln lt e) (none t lt)),
    λ none. none large large-typing,
  )

  numbers-unique : (r m : ℕ) (X : Pairs) → Largest s r m X
      → (found.rounds ≡ r) × (found.struck ≡ m) × (found.bare ≡ bare_cards s X)
  numbers-unique r m X a =
      let (same-rounds, same-struck, alike) = largest-unique rep found.largest a in
      (same-rounds, same-struck, found.counted ∙ bare_alike rep (on large) X alike)

  module _ {Booked : ℕ → ℕ → Type 0} (inside : BookedIn s Booked) {small : List ℕ} where
    accepted-demand : (m : ℕ) → Accepted s Booked small m
        → Demand3 s Booked large found.rounds found.struck found.bare small (pairs m)
    accepted-demand m a = record {
      turned_down = (λ never. absurd never, λ none. none small (accepted-sound a) (accepted-holds a));
      small-sound = λ _. (accepted-sound a, accepted-holds a);
      large-sound = λ _. (
        large-typing,
        λ n t b.
            let (ln, lt) = inside n t b in
            largest-over rep found.largest (on small) (accepted-sound a).sound n t ln lt (accepted-holds a n t b),
      );
      between = λ _ h w holds. (
        λ n t ln lt e. sound-over rep inside (on h) w.sound holds (a.closure.only n t ln lt e),
        largest-over rep found.largest (on h) w.sound,
      );
      shapeless = no-shape-exact;
      numbers = numbers-unique;
      counts_some = some-largest rep;
      pairs-counted = λ k X e x.
          same-pairs e ∙ a.counted
          ∙ tally-ext (on small) X (size s) (closure-unique rep inside (on small) X a.closure x);
      bound = largest-bound rep found.largest;
    }
      where
        same-pairs : {k : ℕ} → pairs m ≡ pairs k → k ≡ m
        same-pairs e = cc

    turned-down-demand : (n t : ℕ) → TurnedDown s Booked small n t
        → Demand3 s Booked large found.rounds found.struck found.bare small (not_met n t)
    turned-down-demand n t a = record {
      turned_down = (λ _ h w holds. turned-down-never rep inside a (on h) w.sound holds, λ _. tt);
      small-sound = λ accepted. absurd (accepted tt);
      large-sound = λ accepted. absurd (accepted tt);
      between = λ accepted. absurd (accepted tt);
      shapeless = no-shape-exact;
      numbers = numbers-unique;
      counts_some = some-largest rep;
      pairs-counted = λ k X e. absurd (never e);
      bound = largest-bound rep found.largest;
    }
      where
        never : {k : ℕ} → not_met n t ≡ pairs k → ⊥
        never e = let z : ◌≡◌ {A = ℕ} 0 1 = cc in omega arith

    pub demand-3 : (outcome : Outcome) → Leaves s Booked small outcome
        → Demand3 s Booked large found.rounds found.struck found.bare small outcome
    demand-3 (pairs m) a = accepted-demand m a
    demand-3 (not_met n t) a = turned-down-demand n t a

pub both_found : {s : Sheet} {B : Board} → Represents s B → {Booked : ℕ → ℕ → Type 0} {small large : List ℕ}
    {said : BothSaid} → BookedIn s Booked
    → LargestFound s large said.largest → SmallestFound s Booked small said.smallest
    → BothFound s Booked small large said
both_found rep inside l m =
    record { largest = l; smallest = m; demand = demand-3 rep l inside m.outcome m.leaves }

-- Bookings of the same pairs have one smallest typing, or one 50.
--   closure-more            what follows from bookings follows from more of them
--   smallest-found-same     what is found for some bookings is found for others of the same pairs
--   smallest-answered-same  so is what is answered
-- Assumes nothing.
use Prim.Native.Nat.{ℕ}
use mathlib.Core.Logic.{◌↔◌}
use mathlib.Core.List.{List}
use Rattle.words.specs.Said.{Said}
use Rattle.words.specs.Reading.{Reading, accepted, turned_down}
use Rattle.words.specs.Answered.{Answered, Unchanged}
use Rattle.sheet.specs.Sheet.{Sheet}
use Rattle.typing.specs.Typing.{Pairs}
use Rattle.typing.specs.Smallest.{Closure, booked, follow, IsClosure}
use Rattle.typing.specs.Demand3.{Outcome, pairs, not_met}
use Rattle.typing.specs.Calls.{Leaves, SmallestFound}

closure-more : {s : Sheet} {P Q : ℕ → ℕ → Type 0} → ((n t : ℕ) → P n t → Q n t) → {n t : ℕ}
    → Closure s P n t → Closure s Q n t
closure-more more (booked {n} {t} b) = booked (more n t b)
closure-more more (follow c way i l near names) = follow (closure-more more c) way i l near names

-- One way round; the other is the same with the two exchanged.
module _ (s : Sheet) {P Q : ℕ → ℕ → Type 0} (to : (n t : ℕ) → P n t → Q n t) (back : (n t : ℕ) → Q n t → P n t) where
  closure-same : (X : Pairs) → IsClosure s P X → IsClosure s Q X
  closure-same X c = record {
    has = λ n t q. c.has n t (closure-more back q);
    only = λ n t ln lt h. closure-more to (c.only n t ln lt h);
  }

  leaves-same : (grid : List ℕ) (o : Outcome) → Leaves s P grid o → Leaves s Q grid o
  leaves-same grid (pairs m) a = record {
    typing = a.typing;
    closure = closure-same _ a.closure;
    met = λ n t q. a.met n t (closure-more back q);
    counted = a.counted;
  }
  leaves-same grid (not_met n t) d = record {
    zeros = d.zeros;
    set = d.set;
    closure = closure-same d.set d.closure;
    inside = closure-more to d.inside;
    unmet = d.unmet;
    lowest = λ m u q. d.lowest m u (closure-more back q);
  }

  pub smallest-found-same : (grid : List ℕ) (said : Said) → SmallestFound s P grid said → SmallestFound s Q grid said
  smallest-found-same grid said x =
      record { outcome = x.outcome; says = x.says; leaves = leaves-same grid x.outcome x.leaves }

pub smallest-answered-same : (r : Reading Sheet) {P Q : ℕ → ℕ → Type 0} → ((n t : ℕ) → P n t ↔ Q n t)
    → (before after : List ℕ) (said : Said)
    → Answered r (Unchanged before after said) (λ s. SmallestFound s P after said)
    ↔ Answered r (Unchanged before after said) (λ s. SmallestFound s Q after said)
smallest-answered-same (turned_down number place) same before after said = (λ x. x, λ x. x)
smallest-answered-same (accepted s) same before after said = (
  smallest-found-same s (λ n t. (same n t).0) (λ n t. (same n t).1) after said,
  smallest-found-same s (λ n t. (same n t).1) (λ n t. (same n t).0) after said,
)

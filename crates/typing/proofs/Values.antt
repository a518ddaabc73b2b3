-- Values are said only of a sheet that is read.
--   both_values                     of the call for both: the sheet, and what was found of it
--   smallest-values, judge-values   of these calls: the sheet, and that the grid is a sound typing with the bookings
-- Assumes nothing.
use Prim.Native.Nat.{ℕ}
use mathlib.Core.Path.{◌≡◌, refl, sym, ap, ◌∙◌}
use mathlib.Core.List.{List, []}
use Rattle.words.specs.Said.{values}
use Rattle.words.specs.Reading.{Reading, accepted, turned_down}
use Rattle.words.specs.Answered.{Answered, Unchanged}
use Rattle.words.proofs.Said.{values-refusal}
use Rattle.words.proofs.Answered.{answered-values}
use Rattle.sheet.specs.Sheet.{Sheet}
use Rattle.bookings.specs.Bookings.{Booked}
use Rattle.typing.specs.Demand3.{Outcome, pairs, not_met}
use Rattle.typing.specs.Answer.{BothSaid, both_refused}
use Rattle.typing.specs.Calls.{Grids, Leaves, outcome_said, SmallestFound, BothFound}
use Rattle.typing.specs.Judge.{Verdict, over, unmet, unheld, passes, verdict_said, Passes, Judged, JudgeFound}
use Rattle.typing.proofs.Smallest.{accepted-sound, accepted-holds}

module _ (Wanted : ℕ → ℕ → Type 0) where
  -- a number of pairs is said of bookings that are accepted
  pairs-by : (s : Sheet) (grid found : List ℕ) (o : Outcome) → values found ≡ outcome_said o → Leaves s Wanted grid o
      → Passes s Wanted grid
  pairs-by s grid found (pairs m) e a = record { sound = accepted-sound a; holds = accepted-holds a }
  pairs-by s grid found (not_met n t) e a = values-refusal e

  pub smallest-values : (r : Reading Sheet) (before after found : List ℕ)
      → Answered r (Unchanged before after (values found)) (λ s. SmallestFound s Wanted after (values found))
      → (s : Sheet) × (r ≡ accepted s) × Passes s Wanted after
  smallest-values r before after found x =
      let (s, asked, f) = answered-values r before after found x in
      (s, asked, pairs-by s after found f.outcome f.says f.leaves)

  pub both_values : (r : Reading Sheet) (before after : Grids) (said : BothSaid) (found : List ℕ)
      → said.smallest ≡ values found
      → Answered r (λ refused. Unchanged before after said (both_refused refused))
      (λ s. BothFound s Wanted after.small after.large said)
      → (s : Sheet) × (r ≡ accepted s) × BothFound s Wanted after.small after.large said
  both_values (accepted s) before after said found e x = (s, refl, x)
  both_values (turned_down number place) before after said found e x =
      values-refusal (sym e ∙ ap (λ (z : BothSaid). z.smallest) x.0)

-- the verdict of which there is nothing to say
passes-by : (s : Sheet) (bookings : List ℕ) (desk : ℕ) (grid : List ℕ) (v : Verdict) → values [] ≡ verdict_said v
    → Judged s bookings desk grid v
    → Passes s (Booked bookings desk) grid
passes-by s bookings desk grid (over p) e x = values-refusal e
passes-by s bookings desk grid (unmet n t) e x = values-refusal e
passes-by s bookings desk grid (unheld i) e x = values-refusal e
passes-by s bookings desk grid passes e x = x

pub judge-values : (r : Reading Sheet) (bookings : List ℕ) (desk : ℕ) (grid : List ℕ)
    → Answered r (λ refused. values [] ≡ refused) (λ s. JudgeFound s bookings desk grid (values []))
    → (s : Sheet) × (r ≡ accepted s) × Passes s (Booked bookings desk) grid
judge-values (accepted s) bookings desk grid x =
    (s, refl, passes-by s bookings desk grid x.verdict x.says x.right)
judge-values (turned_down number place) bookings desk grid x = values-refusal x

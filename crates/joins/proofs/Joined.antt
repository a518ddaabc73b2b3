-- Joining the intervals of the parts of a choice or of an all.
-- joined-assoc                the order of joining does not matter
-- joined-choice, joined-all   by the code
-- zero-free, zero-alone       with a link of a choice whose label counts 0
-- joined-none, none-joined    with no parts
-- joined-more                 the first part of a run, with the rest
-- Assumes nothing.
use Prim.Native.Nat.{ℕ, ◌<◌}
use mathlib.Core.Path.{◌≡◌, refl, ap, ◌∙◌}
use mathlib.Core.Bool.{Bool, true, false, cond}
use lib.Dec.{eqb}
use borrow.Author.Tests.{eq-eqb, ne_eqb}
use Rattle.bags.specs.Part.{Part, Parts, Limit}
use Rattle.bags.specs.Interval.{Interval, add, meet, link_interval, wrap_interval, interval}
use Rattle.bags.proofs.Intervals.{Proper}
use Rattle.bags.proofs.Joining.{add_assoc, meet-assoc, add_none, none-add, meet-any, any-meet, add_free}
use Rattle.bags.proofs.Spans.{zero-from, zero-only}
use Rattle.parts.specs.Reading.{gathered}
use Rattle.joins.specs.Evaluation.{joined}

-- Of a choice where the test says so, else of an all.
assoc-by : (choice : Bool) (I J K : Interval) → Proper I → Proper J → Proper K →
    cond choice (add (cond choice (add I J) (meet I J)) K) (meet (cond choice (add I J) (meet I J)) K)
    ≡ cond choice (add I (cond choice (add J K) (meet J K))) (meet I (cond choice (add J K) (meet J K)))
assoc-by true I J K p q r = add_assoc I J K
assoc-by false I J K p q r = meet-assoc I J K p q r

pub joined-assoc : (code : ℕ) (I J K : Interval) → Proper I → Proper J → Proper K →
    joined code (joined code I J) K ≡ joined code I (joined code J K)
joined-assoc code = assoc-by (eqb code 16)

pub joined-choice : (code : ℕ) (I J : Interval) → code ≡ 16 → joined code I J ≡ add I J
joined-choice code I J e = rw (eq-eqb code 16 e) refl

pub joined-all : (code : ℕ) (I J : Interval) → (code ≡ 16 → ⊥) → joined code I J ≡ meet I J
joined-all code I J d = rw (ne_eqb code 16 d) refl

-- A link of a choice whose label counts 0 takes the limit away if its low is 0, and else changes nothing.
pub zero-free : (code low : ℕ) (I : Interval) (high : Limit) → code ≡ 16 → low ≡ 0 →
    joined code I (link_interval 0 low high) ≡ wrap_interval false true I
zero-free code low I high e z =
    joined-choice code I (link_interval 0 low high) e ∙ ap (add I) (zero-from low high z) ∙ add_free I

pub zero-alone : (code low : ℕ) (I : Interval) (high : Limit) → code ≡ 16 → 0 < low →
    joined code I (link_interval 0 low high) ≡ I
zero-alone code low I high e h =
    joined-choice code I (link_interval 0 low high) e ∙ ap (add I) (zero-only low high h) ∙ add_none I

-- The parts of a choice or of an all.
abbrev group_by : Bool → Parts → Part
group_by choice ps = cond choice (Part.choice ps) (Part.all ps)

abbrev join_by : Bool → Interval → Interval → Interval
join_by choice I J = cond choice (add I J) (meet I J)

module _ (w : ℕ → ℕ) where
  none_right : (choice : Bool) (I : Interval) → Proper I → join_by choice I (interval (group_by choice Parts.none)
      w) ≡ I
  none_right true I p = add_none I
  none_right false I p = meet-any I p

  none_left : (choice : Bool) (I : Interval) → Proper I → join_by choice (interval (group_by choice Parts.none) w)
      I ≡ I
  none_left true I p = none-add I
  none_left false I p = any-meet I p

  more_by : (choice : Bool) (p : Part) (ps : Parts) →
      interval (group_by choice (Parts.more p ps)) w ≡ join_by choice (interval p w) (interval (group_by choice ps) w)
  more_by true p ps = refl
  more_by false p ps = refl

  pub joined-none : (code : ℕ) (I : Interval) → Proper I → joined code I (interval (gathered code Parts.none) w) ≡ I
  joined-none code = none_right (eqb code 16)

  pub none-joined : (code : ℕ) (I : Interval) → Proper I → joined code (interval (gathered code Parts.none) w) I ≡ I
  none-joined code = none_left (eqb code 16)

  pub joined-more : (code : ℕ) (p : Part) (ps : Parts) →
      interval (gathered code (Parts.more p ps)) w ≡ joined code (interval p w) (interval (gathered code ps) w)
  joined-more code = more_by (eqb code 16)

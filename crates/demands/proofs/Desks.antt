-- The two desks: the samples are allowed, and wrong answers are not.
--   desks-asked       the samples
--   desk-ignored      a call that takes the other desk's bookings for those of the desk
--   other-refused     one that refuses a pair which the other desk has booked
--   size-before-desk  40 before the 66 of the call's desk
--   desk-taken-for    a call for a desk that there is not is answered
--   only-desks        the right answer of the call for both desks is the only one
--   desks-untouched   one that leaves the grids as they were
--   radio-twice       one that gives television what radio gets
-- Assumes nothing.
use Prim.Native.Nat.{ℕ}
use mathlib.Core.Path.{◌≡◌, refl, ap}
use mathlib.Core.List.{List, [], ◌∷◌}
use native.Mathlib.Omega.{arith}
use lib.ListN.{length, get_or}
use Rattle.words.specs.Said.{values, refusal}
use Rattle.words.specs.Reading.{accepted}
use Rattle.words.proofs.Said.{values-refusal}
use Rattle.bookings.specs.Bookings.{desk_at, card_at, shape_at, read_each, read_list, repeated, booked_before}
use Rattle.typing.specs.Calls.{listed_reading, SmallestSays}
use Rattle.typing.specs.Answer.{DesksSaid}
use Rattle.typing.specs.Desks.{DeskGrids, DesksSays}
use Rattle.typing.proofs.Existence.{smallest-one-answer}
use Rattle.typing.proofs.DeskAnswers.{desks-one-answer}
use Rattle.demands.specs.Worked.{template, script, met_bookings, unmet_bookings, both_unmet, last_shape, no_shapes}
use Rattle.demands.specs.Worked.{largest_answer, smallest_answer, not_met_answer, none_answer}
use Rattle.demands.specs.Desks.{AllAllowed, sevens, same_pair, askings}
use Rattle.demands.proofs.Worked.{worked, worked-read, one-other, two-radio, two-television}
use Rattle.demands.proofs.Worked.{smallest-found, not-met-found, none_found, smallest-allowed, worked-smallest}
use Rattle.demands.proofs.Worked.{worked-not-met, worked-none, worked-desks, met-listed, unmet-listed}
use Rattle.demands.proofs.Worked.{both-unmet-listed}
use Rattle.demands.proofs.Judged.{◌&◌}

-- ---- the samples
same-listed : listed_reading template script same_pair ≡ accepted worked
unfolding read_list read_each repeated booked_before desk_at card_at shape_at
same-listed = rw worked-read refl

unmet-other : SmallestSays template script unmet_bookings 1 (sevens 6) no_shapes none_answer
unmet-other =
    smallest-allowed unmet_bookings 1 unmet-listed (omega arith) (sevens 6) no_shapes none_answer refl
    (none_found (one-other 0 0 0 1 (λ e. absurd (omega (arith, e)))))

both-unmet : SmallestSays template script both_unmet 1 (sevens 6) no_shapes not_met_answer
both-unmet =
    smallest-allowed both_unmet 1 both-unmet-listed (omega arith) (sevens 6) no_shapes not_met_answer refl
    (not-met-found (two-television 0 0 0 0))

same-radio : (before : List ℕ) → length before ≡ 6
    → SmallestSays template script same_pair 0 before last_shape smallest_answer
same-radio before six =
    smallest-allowed same_pair 0 same-listed (omega arith) before last_shape smallest_answer six
    (smallest-found (two-radio 2 1 2 1))

same-television : SmallestSays template script same_pair 1 (sevens 6) last_shape smallest_answer
same-television =
    smallest-allowed same_pair 1 same-listed (omega arith) (sevens 6) last_shape smallest_answer refl
    (smallest-found (two-television 2 1 2 1))

third-desk : (before : List ℕ) → SmallestSays template script met_bookings 2 before before (refusal 66 (0 ∷ []))
third-desk before = rw met-listed (refl, refl)

pub desks-asked : AllAllowed askings
desks-asked =
    worked-smallest (sevens 6) refl & worked-none (sevens 6) refl & worked-not-met (sevens 6) refl & unmet-other
    & both-unmet & same-radio (sevens 6) refl & same-television & third-desk (sevens 5) & rw met-listed (refl, refl)
    & rw met-listed (refl, refl) & tt

-- ---- wrong answers
-- A pair is found for television where radio alone has booked it.
pub desk-ignored : (before after : List ℕ) → length before ≡ 6
    → SmallestSays template script met_bookings 1 before after (values (1 ∷ [])) → ⊥
desk-ignored before after six x =
    let e = (smallest-one-answer template script met_bookings 1 before after no_shapes _ _ x (worked-none before
    six)).0 in
    let z : ◌≡◌ {A = ℕ} 1 0 = cc in omega arith

-- A pair that both desks book is refused.
pub other-refused : (before after : List ℕ) (number : ℕ) (place : List ℕ) → length before ≡ 6
    → SmallestSays template script same_pair 0 before after (refusal number place) → ⊥
other-refused before after number place six x =
    let e =
    (smallest-one-answer template script same_pair 0 before last_shape after _ _ (same-radio before six) x).0 in
    values-refusal e

-- 40 is said, or a number of pairs, of a desk that there is not.
pub size-before-desk : (before after : List ℕ)
    → SmallestSays template script met_bookings 2 before after (refusal 40 (0 ∷ [])) → ⊥
size-before-desk before after x =
    let e = (smallest-one-answer template script met_bookings 2 before after before _ _ x (third-desk before)).0 in
    let z : ◌≡◌ {A = ℕ} 40 66 = cc in omega arith

pub desk-taken-for : (before after found : List ℕ)
    → SmallestSays template script met_bookings 2 before after (values found) → ⊥
desk-taken-for before after found x =
    values-refusal (smallest-one-answer template script met_bookings 2 before after before _ _ x (third-desk before)).0

-- ---- both desks in one call
only-desks : (before after : DeskGrids) (said : DesksSaid) → length before.radio ≡ 6
    → length before.television ≡ 6 → length before.large ≡ 6
    → DesksSays template script met_bookings before after said
    → (said ≡ record { largest = largest_answer; radio = smallest_answer; television = none_answer })
    × (after ≡ record { radio = last_shape; television = no_shapes; large = last_shape })
only-desks before after said radio television large x =
    desks-one-answer template script met_bookings before after _ said _ x (worked-desks before radio television large)

-- Six bytes of 7 in each grid, before and after.
abbrev all_sevens : DeskGrids
all_sevens = record { radio = sevens 6; television = sevens 6; large = sevens 6 }

pub desks-untouched : (said : DesksSaid) → DesksSays template script met_bookings all_sevens all_sevens said → ⊥
desks-untouched said x =
    let e = (only-desks all_sevens all_sevens said refl refl refl x).1 in
    let z : ◌≡◌ {A = ℕ} 7 0 = ap (λ (g : DeskGrids). get_or g.large 0 0) e in omega arith

pub radio-twice : (before after : DeskGrids) (said : DesksSaid) → length before.radio ≡ 6
    → length before.television ≡ 6 → length before.large ≡ 6 → after.television ≡ after.radio
    → DesksSays template script met_bookings before after said → ⊥
radio-twice before after said radio television large same x =
    let e = (only-desks before after said radio television large x).1 in
    let one = ap (λ (g : DeskGrids). get_or g.radio 5 0) e in
    let other = ap (λ (g : DeskGrids). get_or g.television 5 0) e in
    let equal = ap (λ (g : List ℕ). get_or g 5 0) same in
    omega (arith, one, other, equal)

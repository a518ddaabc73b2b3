-- Lists that are refused, and stored lists: the samples are allowed, and wrong answers are not.
--   lists-refused, lists-tidied   the samples
--   only-tidied       the right answer of a list with a repeat is the only one
--   repeat-taken      a call that takes a pair which stands twice
--   shape-of-repeat   65 at the later booking's shape
--   repeat-first      65 before the 33 of a booking that stands before it
--   neighbours-only   a list is taken whose repeat is not next to its first
--   card-of-desk, card-first   66 at the card of the booking, and 32 before 66
--   last-kept         a pass that keeps the last booking of each pair
--   other-desk, no-desks   one that writes desk 1 before each, and one that writes no desk
--   old-count         one that leaves the old count
--   buffer-untouched  one that writes nothing
--   rest-cleared      one that clears the buffer behind the list
--   repeat-refused    one that refuses a repeat
--   longer-taken      one that takes a buffer that is too long
-- Assumes nothing.
use Prim.Native.Nat.{ℕ}
use mathlib.Core.Path.{◌≡◌, refl, ap, sym, ◌∙◌}
use mathlib.Core.List.{List, [], ◌∷◌}
use native.Mathlib.Omega.{arith}
use lib.ListN.{get_or}
use Rattle.words.specs.Said.{Said, values, refusal}
use Rattle.words.proofs.Said.{values-refusal}
use Rattle.bookings.specs.Bookings.{desk_at, card_at, shape_at, read_each, read_list, repeated, booked_before}
use Rattle.stored.specs.Stored.{stored_card_at, stored_shape_at}
use Rattle.stored.specs.Tidied.{different, firsts, tidied}
use Rattle.typing.specs.Calls.{SmallestSays}
use Rattle.typing.specs.Tidy.{TidySays}
use Rattle.typing.proofs.Existence.{smallest-one-answer}
use Rattle.typing.proofs.Tidying.{tidy-one-answer}
use Rattle.demands.specs.Worked.{template, script}
use Rattle.demands.specs.Repeats.{AllRefused, AllAllowed, next_to_each, between, shape_between, third_desk}
use Rattle.demands.specs.Repeats.{refused_lists, sevens, apart, apart_tidied, tidyings}
use Rattle.demands.proofs.Worked.{worked-read}
use Rattle.demands.proofs.Judged.{◌&◌}

pub lists-refused : AllRefused refused_lists
unfolding read_list read_each repeated booked_before desk_at card_at shape_at
lists-refused = rw worked-read (
    (λ desk grid. (refl, refl)) & (λ desk grid. (refl, refl)) & (λ desk grid. (refl, refl))
    & (λ desk grid. (refl, refl)) & (λ desk grid. (refl, refl)) & (λ desk grid. (refl, refl))
    & (λ desk grid. (refl, refl)) & (λ desk grid. (refl, refl)) & (λ desk grid. (refl, refl))
    & (λ desk grid. (refl, refl)) & (λ desk grid. (refl, refl)) & (λ desk grid. (refl, refl)) & tt
    )

pub lists-tidied : AllAllowed tidyings
unfolding read_list read_each repeated booked_before desk_at card_at shape_at stored_card_at stored_shape_at different
    firsts tidied
lists-tidied = rw worked-read (
    record { says = refl; writes = refl } & (refl, refl) & (refl, refl) & (refl, refl)
    & record { says = refl; writes = refl } & record { says = refl; writes = refl } & (refl, refl) & (refl, refl)
    & (refl, refl) & tt
    )

-- ---- lists that are refused
module _ (desk : ℕ) (before after : List ℕ) (said : Said) where
  -- of these lists nothing else may be said
  only-refused : SmallestSays template script next_to_each desk before after said → said ≡ refusal 65 (5 ∷ [])
  only-refused x =
      (smallest-one-answer template script next_to_each desk before after before _ _ x (lists-refused.0 desk before)).0

  only-between : SmallestSays template script between desk before after said → said ≡ refusal 65 (11 ∷ [])
  only-between x =
      (smallest-one-answer template script between desk before after before _ _ x (lists-refused.1.0 desk before)).0

  only-shape : SmallestSays template script shape_between desk before after said → said ≡ refusal 33 (6 ∷ [])
  only-shape x =
      (smallest-one-answer template script shape_between desk before after before _ _ x
      (lists-refused.1.1.1.1.0 desk before)).0

  only-desk : SmallestSays template script third_desk desk before after said → said ≡ refusal 66 (1 ∷ [])
  only-desk x =
      (smallest-one-answer template script third_desk desk before after before _ _ x
      (lists-refused.1.1.1.1.1.1.0 desk before)).0

module _ (desk : ℕ) (before after : List ℕ) where
  -- A number of pairs for a list in which a desk books a pair twice.
  pub repeat-taken : (found : List ℕ) → SmallestSays template script next_to_each desk before after (values found) → ⊥
  repeat-taken found x = values-refusal (only-refused desk before after _ x)

  -- The same where other bookings stand between the two.
  pub neighbours-only : (found : List ℕ) → SmallestSays template script between desk before after (values found) → ⊥
  neighbours-only found x = values-refusal (only-between desk before after _ x)

  -- 65 at the word of the shape.
  pub shape-of-repeat : SmallestSays template script next_to_each desk before after (refusal 65 (6 ∷ [])) → ⊥
  shape-of-repeat x =
      let e = only-refused desk before after _ x in
      let z : ◌≡◌ {A = ℕ} 6 5 = cc in omega arith

  -- 65 where a booking before it is of a shape that there is not.
  pub repeat-first : (place : List ℕ) → SmallestSays template script shape_between desk before after (refusal 65 place)
      → ⊥
  repeat-first place x =
      let e = only-shape desk before after _ x in
      let z : ◌≡◌ {A = ℕ} 65 33 = cc in omega arith

  -- 66 at the word of the card, and the card's own refusal before it.
  pub card-of-desk : SmallestSays template script third_desk desk before after (refusal 66 (2 ∷ [])) → ⊥
  card-of-desk x =
      let e = only-desk desk before after _ x in
      let z : ◌≡◌ {A = ℕ} 2 1 = cc in omega arith

  pub card-first : (place : List ℕ) → SmallestSays template script third_desk desk before after (refusal 32 place) → ⊥
  card-first place x =
      let e = only-desk desk before after _ x in
      let z : ◌≡◌ {A = ℕ} 32 66 = cc in omega arith

-- ---- lists that are tidied
pub only-tidied : (after : List ℕ) (said : Said) → TidySays template script apart (sevens 10) after said
    → (said ≡ values (7 ∷ [])) × (after ≡ apart_tidied)
only-tidied after said x =
    tidy-one-answer template script apart (sevens 10) after apart_tidied said (values (7 ∷ [])) x lists-tidied.0

-- Whatever is said, another word is not written.
other_word : (after : List ℕ) (said : Said) (place word : ℕ) → get_or after place 0 ≡ word
    → (get_or apart_tidied place 0 ≡ word → ⊥) → TidySays template script apart (sevens 10) after said → ⊥
other_word after said place word is other x =
    other (ap (λ (l : List ℕ). get_or l place 0) (sym (only-tidied after said x).1) ∙ is)

module _ (said : Said) where
  pub last-kept : TidySays template script apart (sevens 10) (2 ∷ 0 ∷ 0 ∷ 0 ∷ 0 ∷ 2 ∷ 1 ∷ 7 ∷ 7 ∷ 7 ∷ []) said
      → ⊥
  last-kept = other_word _ said 2 0 refl (λ e. omega (arith, e))

  pub other-desk : TidySays template script apart (sevens 10) (2 ∷ 1 ∷ 2 ∷ 1 ∷ 1 ∷ 0 ∷ 0 ∷ 7 ∷ 7 ∷ 7 ∷ []) said
      → ⊥
  other-desk = other_word _ said 1 1 refl (λ e. omega (arith, e))

  pub old-count : (rest : List ℕ) → TidySays template script apart (sevens 10) (3 ∷ rest) said → ⊥
  old-count rest = other_word (3 ∷ rest) said 0 3 refl (λ e. omega (arith, e))

  pub no-desks : TidySays template script apart (sevens 10) (2 ∷ 2 ∷ 1 ∷ 0 ∷ 0 ∷ 7 ∷ 7 ∷ 7 ∷ 7 ∷ 7 ∷ []) said → ⊥
  no-desks = other_word _ said 1 2 refl (λ e. omega (arith, e))

  pub buffer-untouched : TidySays template script apart (sevens 10) (sevens 10) said → ⊥
  buffer-untouched = other_word (sevens 10) said 0 7 refl (λ e. omega (arith, e))

  pub rest-cleared : TidySays template script apart (sevens 10) (2 ∷ 0 ∷ 2 ∷ 1 ∷ 0 ∷ 0 ∷ 0 ∷ 0 ∷ 0 ∷ 0 ∷ []) said
      → ⊥
  rest-cleared = other_word _ said 7 0 refl (λ e. omega (arith, e))

pub repeat-refused : (after : List ℕ) (number : ℕ) (place : List ℕ)
    → TidySays template script apart (sevens 10) after (refusal number place) → ⊥
repeat-refused after number place x = values-refusal (sym (only-tidied after _ x).0)

pub longer-taken : (after found : List ℕ) → TidySays template script apart (sevens 11) after (values found) → ⊥
longer-taken after found x =
    values-refusal (tidy-one-answer template script apart (sevens 11) after (sevens 11) _ _ x lists-tidied.1.0).0

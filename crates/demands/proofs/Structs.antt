-- Wrong numbers in the C structs are not allowed by the contracts of the C functions: shown on the worked sheet of
-- docs/FORMAT.md.
--   zero-counts          a template's counts are told as 0
--   place-for-number     a refusal's number and place are exchanged
--   shape-for-card       card and shape of 50 are exchanged
--   shape-for-card-judged, unmet-told-accepted   those of 62 are; a pair that is not met is told as accepted
--   grids-swapped        each typing stands in the other's grid
--   strikes-for-pairs    the pairs struck are told for the pairs of the smallest typing
--   first-links-copied   the script's first words are copied instead of the card's links
--   written-not-told     how many words were written is told as 0
-- Assumes nothing.
use Prim.Native.Nat.{ℕ}
use mathlib.Core.Path.{◌≡◌, ap, ◌∙◌}
use mathlib.Core.List.{List, [], ◌∷◌}
use native.Mathlib.Omega.{arith}
use lib.ListN.{length, get_or}
use Rattle.parts.specs.Reading.{read_link, read_run, read_part}
use Rattle.template.specs.Template.{open_at, part_at, read_shape, read_shapes, read_template, template_says}
use Rattle.script.specs.Link.{from_at, kind_at, to_at, above, greater}
use Rattle.script.specs.Script.{read_links, read_script, script_says, card_links}
use Rattle.typing.specs.Answer.{BothSaid}
use Rattle.typing.specs.Calls.{SmallestSays, Grids, BothSays}
use Rattle.typing.specs.Judge.{JudgeSays}
use Rattle.typing.specs.Tidy.{TidySays}
use Rattle.typing.proofs.Existence.{both-one-answer}
use Rattle.typing.proofs.Judging.{judge-one-answer}
use Rattle.capi.specs.declared.PrepBoth.{PrepBoth}
use Rattle.capi.specs.Numbers.{Tells, TellsBoth, template_numbers, script_numbers, smallest_numbers}
use Rattle.capi.specs.Numbers.{judge_numbers, written_numbers, copied}
use Rattle.demands.specs.Worked.{template, script, met_bookings, unmet_bookings, last_shape, no_shapes}
use Rattle.demands.specs.Judged.{unmet_grid}
use Rattle.demands.specs.Repeats.{sevens, apart}
use Rattle.demands.proofs.Worked.{worked-links, worked-both, worked-both-none}
use Rattle.demands.proofs.Judged.{unmet-sample}
use Rattle.demands.proofs.Refuted.{only-not-met, unsound-accepted}
use Rattle.demands.proofs.Repeats.{only-tidied}

-- ---- the files
pub zero-counts : Tells (λ x. x ≡ template_says template)
    (template_numbers (record { number = 0; kinds = 0; shapes = 0; place = 0 })) → ⊥
unfolding read_template open_at part_at read_shape read_shapes read_part read_run read_link template_says
zero-counts (e, zeros) =
    let z : ◌≡◌ {A = ℕ} 0 2 = cc in omega arith

-- A link to card 2 of two cards is 23 at 4.
pub place-for-number : Tells (λ x. x ≡ script_says template (2 ∷ 1 ∷ 0 ∷ 0 ∷ 2 ∷ []))
    (script_numbers (record { number = 4; cards = 0; links = 0; place = 23 })) → ⊥
unfolding read_template open_at part_at read_shape read_shapes read_part read_run read_link template_says
    script_says read_script read_links from_at kind_at to_at above greater
place-for-number (e, zeros) =
    let z : ◌≡◌ {A = ℕ} 4 23 = cc in omega arith

-- The links of card 1 are the script's last three words.
pub first-links-copied : (3 ∷ 3 ∷ 0 ∷ []) ≡ copied (card_links template script 1) (sevens 3) → ⊥
first-links-copied e =
    let links = ap (λ (l : List ℕ). copied l (sevens 3)) worked-links.1 in
    let z : ◌≡◌ {A = ℕ} 3 1 = ap (λ (l : List ℕ). get_or l 0 0) (e ∙ links) in omega arith

-- ---- typings
pub shape-for-card : (before after : List ℕ) → length before ≡ 6
    → Tells (SmallestSays template script unmet_bookings 0 before after)
    (smallest_numbers (record { number = 50; card = 1; shape = 0; place = 0; pairs = 0 })) → ⊥
shape-for-card before after six (x, zeros) =
    let e = (only-not-met before six after _ x).0 in
    let z : ◌≡◌ {A = ℕ} 1 0 = cc in omega arith

-- For television, which books nothing, the smallest typing has no pair and the largest one.
pub grids-swapped : (before : Grids) (r : PrepBoth) → length before.small ≡ 6 → length before.large ≡ 6
    → TellsBoth (BothSays template script met_bookings 1 before (record { small = last_shape; large = no_shapes }))
    r → ⊥
grids-swapped before r small large (x, zeros, others) =
    let e = (both-one-answer template script met_bookings 1 before _ _ _ _ x (worked-both-none before small
    large)).1 in
    let z : ◌≡◌ {A = ℕ} 1 0 = ap (λ (g : Grids). get_or g.small 5 0) e in omega arith

pub strikes-for-pairs : (before after : Grids) (card shape place rounds struck bare : ℕ)
    → length before.small ≡ 6 → length before.large ≡ 6
    → TellsBoth (BothSays template script met_bookings 0 before after)
    (record {
      number = 0;
      card = card;
      shape = shape;
      place = place;
      rounds = rounds;
      struck = struck;
      bare = bare;
      pairs = 5;
    }) → ⊥
strikes-for-pairs before after card shape place rounds struck bare small large (x, zeros, others) =
    let e = (both-one-answer template script met_bookings 0 before _ _ _ _ x (worked-both before small large)).0 in
    let pairs = ap (λ (b : BothSaid). b.smallest) e in
    let z : ◌≡◌ {A = ℕ} 5 1 = cc in omega arith

-- ---- grids and lists
pub shape-for-card-judged : Tells (JudgeSays template script met_bookings 0 unmet_grid)
    (judge_numbers (record { number = 62; card = 0; shape = 1; place = 0 })) → ⊥
shape-for-card-judged (x, zeros) =
    let e = judge-one-answer template script met_bookings 0 unmet_grid _ _ x unmet-sample in
    let z : ◌≡◌ {A = ℕ} 0 1 = cc in omega arith

pub unmet-told-accepted : (card shape place : ℕ) → Tells (JudgeSays template script met_bookings 0 unmet_grid)
    (judge_numbers (record { number = 0; card = card; shape = shape; place = place })) → ⊥
unmet-told-accepted card shape place (x, zeros) = unsound-accepted x

pub written-not-told : (after : List ℕ) → Tells (TidySays template script apart (sevens 10) after)
    (written_numbers (record { number = 0; place = 0; written = 0 })) → ⊥
written-not-told after (x, zeros) =
    let e = (only-tidied after _ x).0 in
    let z : ◌≡◌ {A = ℕ} 0 7 = cc in omega arith

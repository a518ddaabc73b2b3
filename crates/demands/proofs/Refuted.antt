-- Wrong answers are not allowed by the contracts: shown on the worked sheet of docs/FORMAT.md, and of blank cards on
-- every script without links, so that each of these promises is seen to say something.
--   only-largest, only-met, only-not-met   the right answers are the only ones
--   grid-untouched, sevens-untouched       an accepting call that leaves the grid as it was
--   three-rounds             3 rounds instead of 4
--   blanks-counted           a third number above 0 where no card has a link
--   closure-left             50 that leaves the closure in the grid instead of zeros
--   booking-named            50 that names the booked pair instead of the pair that is not met
--   met-turned-down          50 for bookings that can be met
--   unmet-accepted           a number of pairs for bookings that cannot
--   five-refused, refusal-changes          a refusal that changes a byte of the grid
--   list-first, size-first   the list of bookings is looked at before the grid: 30 is allowed, 40 is not
--   longer-large             both typings are written though the grid for the largest is too long
--   all-zeros                a largest typing without any pair
--   unsound-accepted, unheld-accepted   a grid is accepted that is not sound, or has not a booking
--   first-passed             a grid is accepted whose first pair alone is not met
--   sound-refused            a grid is refused that is sound and has the bookings
--   other-booking-asked      a grid is refused that has not what the other desk books
--   higher-pair              62 that names a pair above the lowest that is not met
--   shape-named              63 at the booking's shape instead of its card
--   wrong-fit                "no" to counts that fit
--   links-elsewhere          a part for a card that is not there, which is empty, at another place of the script
--   all-refused              a reader that refuses this template
-- Assumes nothing.
use Prim.Native.Nat.{ℕ, ◌+◌, ◌<◌}
use mathlib.Core.Path.{◌≡◌, refl, ap, ◌∙◌}
use mathlib.Core.Bool.{◌&&◌}
use mathlib.Core.List.{List, [], ◌∷◌}
use native.Mathlib.Omega.{arith}
use denote.Ref.{Bor}
use lib.ListN.{length, get_or}
use Rattle.words.specs.Said.{Said, values, refusal}
use Rattle.words.proofs.Said.{values-refusal}
use Rattle.board.specs.Grid.{on}
use Rattle.board.proofs.Tally.{tally-none}
use Rattle.parts.specs.Reading.{read_link, read_run, read_part}
use Rattle.template.specs.Template.{open_at, part_at, read_shape, read_shapes, read_template, template_says}
use Rattle.bookings.specs.Bookings.{read_list}
use Rattle.script.specs.Link.{linked}
use Rattle.script.specs.Script.{links_start}
use Rattle.script.proofs.Answers.{LinksPart}
use Rattle.sheet.specs.Sheet.{Sheet, read_sheet}
use Rattle.sheet.proofs.Accepted.{sheet-read}
use Rattle.counts.specs.Fit.{FitSays}
use Rattle.counts.proofs.Fitting.{fit-one-answer}
use Rattle.typing.specs.Typing.{Pairs}
use Rattle.typing.specs.Largest.{bare, bare_cards}
use Rattle.typing.specs.Answer.{BothSaid}
use Rattle.typing.specs.Calls.{largest_reading, LargestSays, SmallestSays, Grids, BothSays}
use Rattle.typing.proofs.Booked.{grid-asked}
use Rattle.typing.specs.Judge.{JudgeSays}
use Rattle.typing.proofs.Existence.{largest-one-answer, smallest-one-answer}
use Rattle.typing.proofs.Judging.{judge-one-answer}
use Rattle.words.proofs.Answered.{answered-values}
use Rattle.demands.specs.Worked.{template, script, met_bookings, unmet_bookings, last_shape, no_shapes}
use Rattle.demands.specs.Worked.{largest_answer, smallest_answer, not_met_answer}
use Rattle.demands.proofs.Worked.{worked-read, worked-links, worked_fit, worked-largest, worked-smallest}
use Rattle.demands.specs.Judged.{unmet_grid, first_grid}
use Rattle.demands.proofs.Worked.{worked-not-met, met-listed}
use Rattle.demands.proofs.Judged.{accepted-sample, none-sample, unmet-sample, first-sample, unheld-sample}

-- ---- the right answers are the only ones
module _ (before : List ℕ) (six : length before ≡ 6) (after : List ℕ) (said : Said) where
  only-largest : LargestSays template script before after said → (said ≡ largest_answer) × (after ≡ last_shape)
  only-largest x =
      largest-one-answer template script before after last_shape said largest_answer x (worked-largest before six)

  only-met : SmallestSays template script met_bookings 0 before after said
      → (said ≡ smallest_answer) × (after ≡ last_shape)
  only-met x = smallest-one-answer template script met_bookings 0 before after last_shape said smallest_answer x
      (worked-smallest before six)

  pub only-not-met : SmallestSays template script unmet_bookings 0 before after said
      → (said ≡ not_met_answer) × (after ≡ no_shapes)
  only-not-met x = smallest-one-answer template script unmet_bookings 0 before after no_shapes said not_met_answer x
      (worked-not-met before six)

-- ---- wrong answers
-- What was in the grid before is not left there, whatever is said, unless it was the answer; so six bytes of 7 are not.
pub grid-untouched : (before : List ℕ) (said : Said) → length before ≡ 6 → (before ≡ last_shape → ⊥)
    → LargestSays template script before before said → ⊥
grid-untouched before said six other x = other (only-largest before six before said x).1

abbrev pub sevens : List ℕ
sevens = 7 ∷ 7 ∷ 7 ∷ 7 ∷ 7 ∷ 7 ∷ []

pub sevens-untouched : (said : Said) → LargestSays template script sevens sevens said → ⊥
sevens-untouched said = grid-untouched sevens said refl (λ e.
    let z : ◌≡◌ {A = ℕ} 7 0 = ap (λ (g : List ℕ). get_or g 0 0) e in omega arith)

-- No pair in the largest typing, whatever else is said.
pub all-zeros : (before : List ℕ) (said : Said) → length before ≡ 6
    → LargestSays template script before no_shapes said → ⊥
all-zeros before said six x =
    let e = (only-largest before six no_shapes said x).1 in
    let z : ◌≡◌ {A = ℕ} 0 1 = ap (λ (g : List ℕ). get_or g 5 0) e in omega arith

-- Three rounds, whatever else is said and written.
pub three-rounds : (before after : List ℕ) (struck bare : ℕ) → length before ≡ 6
    → LargestSays template script before after (values (3 ∷ struck ∷ bare ∷ [])) → ⊥
three-rounds before after struck bare six x =
    let e = (only-largest before six after _ x).0 in
    let z : ◌≡◌ {A = ℕ} 3 4 = cc in omega arith

-- Where the script has no links, no card is counted, whatever the template and the set.
no-links : (s : Sheet) (X : Pairs) → s.links ≡ 0 → bare_cards s X ≡ 0
unfolding bare_cards linked
no-links s X none =
    tally-none (λ n. linked s.script n s.links && bare s X n) s.cards (λ n l. rw none refl)

-- A third number above 0 where the script has no links, so that every card is blank.
pub blanks-counted : (words list before after : List ℕ) (rounds struck counted : ℕ) → get_or list 1 0 ≡ 0
    → 0 < counted → LargestSays words list before after (values (rounds ∷ struck ∷ counted ∷ [])) → ⊥
blanks-counted words list before after rounds struck counted none some x =
    let (s, asked, found) = answered-values (largest_reading words list before) before after _ x in
    let (kinds, read, same) = sheet-read words list s (grid-asked before (read_sheet words list) s asked).0 in
    let few : s.links ≡ 0 = read.links.links ∙ ap (λ (w : List ℕ). get_or w 1 0) same ∙ none in
    let said = found.says in
    let e : counted ≡ found.bare = cc in
    omega (arith, e, found.counted, no-links s (on after) few)

-- 50 with the closure of the booking left in the grid.
pub closure-left : (before : List ℕ) → length before ≡ 6
    → SmallestSays template script unmet_bookings 0 before (1 ∷ 1 ∷ 1 ∷ 0 ∷ 0 ∷ 1 ∷ []) not_met_answer → ⊥
closure-left before six x =
    let e = (only-not-met before six _ not_met_answer x).1 in
    let z : ◌≡◌ {A = ℕ} 1 0 = ap (λ (g : List ℕ). get_or g 0 0) e in omega arith

-- 50 that names the booked pair, (0, 0), which is met.
pub booking-named : (before after : List ℕ) → length before ≡ 6
    → SmallestSays template script unmet_bookings 0 before after (refusal 50 (0 ∷ 0 ∷ [])) → ⊥
booking-named before after six x =
    let e = (only-not-met before six after _ x).0 in
    let z : ◌≡◌ {A = ℕ} 0 1 = cc in omega arith

-- 50 for bookings that can be met.
pub met-turned-down : (before after place : List ℕ) → length before ≡ 6
    → SmallestSays template script met_bookings 0 before after (refusal 50 place) → ⊥
met-turned-down before after place six x =
    let e = (only-met before six after _ x).0 in
    let z : ◌≡◌ {A = ℕ} 0 1 = cc in omega arith

-- A number of pairs for bookings that cannot.
pub unmet-accepted : (before after : List ℕ) (found : List ℕ) → length before ≡ 6
    → SmallestSays template script unmet_bookings 0 before after (values found) → ⊥
unmet-accepted before after found six x =
    let e = (only-not-met before six after _ x).0 in
    let z : ◌≡◌ {A = ℕ} 0 1 = cc in omega arith

-- A grid of five bytes is refused with 40, and not a byte of it changes.
five-refused : (before after : List ℕ) (said : Said) → length before ≡ 5
    → LargestSays template script before after said → (said ≡ refusal 40 (0 ∷ [])) × (after ≡ before)
five-refused before after said five x = rw (worked-read, five) at x

pub refusal-changes : (before after : List ℕ) (said : Said) → length before ≡ 5 → (after ≡ before → ⊥)
    → LargestSays template script before after said → ⊥
refusal-changes before after said five changed x = changed (five-refused before after said five x).1

-- An empty list of bookings and a grid of a wrong size, here of five bytes: 30 is said, so 40 is not allowed.
list-first : (before : List ℕ) → SmallestSays template script [] 0 before before (refusal 30 (0 ∷ []))
unfolding read_list
list-first before = rw worked-read (refl, refl)

pub size-first : (before after : List ℕ) → SmallestSays template script [] 0 before after (refusal 40 (0 ∷ [])) → ⊥
size-first before after x =
    let e = (smallest-one-answer template script [] 0 before after before _ _ x (list-first before)).0 in
    let z : ◌≡◌ {A = ℕ} 40 30 = cc in omega arith

-- A grid of seven bytes for the largest: nothing is said but 40, and no byte changes.
seven-refused : (before after : Grids) (said : BothSaid) → length before.small ≡ 6 → length before.large ≡ 7
    → BothSays template script met_bookings 0 before after said → after ≡ before
seven-refused before after said six seven x = (rw (met-listed, six, seven) at x).1

pub longer-large : (before after : Grids) (said : BothSaid) → length before.small ≡ 6 → length before.large ≡ 7
    → (after ≡ before → ⊥) → BothSays template script met_bookings 0 before after said → ⊥
longer-large before after said six seven changed x = changed (seven-refused before after said six seven x)

-- The judge accepts a grid with two pairs that are not met, or without the booked pair.
pub unsound-accepted : JudgeSays template script met_bookings 0 unmet_grid (values []) → ⊥
unsound-accepted x =
    let e = judge-one-answer template script met_bookings 0 unmet_grid _ _ x unmet-sample in
    values-refusal e

pub unheld-accepted : JudgeSays template script unmet_bookings 0 last_shape (values []) → ⊥
unheld-accepted x =
    let e = judge-one-answer template script unmet_bookings 0 last_shape _ _ x unheld-sample in
    values-refusal e

-- It passes over the first pair.
pub first-passed : JudgeSays template script met_bookings 0 first_grid (values []) → ⊥
first-passed x =
    let e = judge-one-answer template script met_bookings 0 first_grid _ _ x first-sample in
    values-refusal e

-- It asks television's grid for what radio books.
pub other-booking-asked : (number : ℕ) (place : List ℕ)
    → JudgeSays template script met_bookings 1 no_shapes (refusal number place) → ⊥
other-booking-asked number place x =
    let e = judge-one-answer template script met_bookings 1 no_shapes _ _ none-sample x in
    values-refusal e

-- It refuses the grid that both typings are.
pub sound-refused : (number : ℕ) (place : List ℕ)
    → JudgeSays template script met_bookings 0 last_shape (refusal number place) → ⊥
sound-refused number place x =
    let e = judge-one-answer template script met_bookings 0 last_shape _ _ accepted-sample x in
    values-refusal e

-- It names (1, 1), which is not met either, where (1, 0) is lower.
pub higher-pair : JudgeSays template script met_bookings 0 unmet_grid (refusal 62 (1 ∷ 1 ∷ [])) → ⊥
higher-pair x =
    let e = judge-one-answer template script met_bookings 0 unmet_grid _ _ x unmet-sample in
    let z : ◌≡◌ {A = ℕ} 1 0 = cc in omega arith

-- It names the word of the booking's shape.
pub shape-named : JudgeSays template script unmet_bookings 0 last_shape (refusal 63 (3 ∷ [])) → ⊥
shape-named x =
    let e = judge-one-answer template script unmet_bookings 0 last_shape _ _ x unheld-sample in
    let z : ◌≡◌ {A = ℕ} 3 2 = cc in omega arith

-- "No" to the counts of card 0, which fit shape 0: one link of each kind from it, and one of kind 0 to it.
pub wrong-fit : FitSays template 0 (1 ∷ 1 ∷ 1 ∷ 0 ∷ []) (values (0 ∷ [])) → ⊥
wrong-fit x =
    let e = fit-one-answer template 0 (1 ∷ 1 ∷ 1 ∷ 0 ∷ []) (values (0 ∷ [])) (values (1 ∷ [])) x worked_fit in
    let z : ◌≡◌ {A = ℕ} 0 1 = cc in omega arith

-- "Links of a card" for card 3, which is not there: the part is empty and starts where the script does, not two words
-- (four bytes) further on, where the links start.
pub links-elsewhere : (lent part : Bor (List ℕ)) → lent.now ≡ script → LinksPart template lent 3 part
    → part.ref_ptr.1 ≡ 4 + lent.ref_ptr.1 → ⊥
links-elsewhere lent part e x there =
    let start : links_start template lent.now 3 ≡ 0 =
    ap (λ (l : List ℕ). links_start template l 3) e ∙ worked-links.7 in
    omega (arith, x.place, start, there)

-- A reader that turns everything down turns this template down, which is read.
pub all-refused : (number : ℕ) (place : List ℕ) → refusal number place ≡ template_says template → ⊥
unfolding read_template open_at part_at read_shape read_shapes read_part read_run read_link template_says
all-refused number place e =
    let z : ◌≡◌ {A = ℕ} 0 1 = cc in omega arith

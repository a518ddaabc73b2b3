-- No choice at the C boundary: two answers that the contract of a C function allows for the same input are equal, and
-- so is the memory that they leave.
--   template-no-choice, fit-no-choice, script-no-choice, links-no-choice, largest-no-choice, smallest-no-choice,
--   both-no-choice, judge-no-choice, tidy-no-choice   of each function
-- Assumes nothing.
use Prim.Native.Nat.{ℕ}
use mathlib.Core.Path.{◌≡◌, refl, sym, ap, ap₂, ◌∙◌}
use mathlib.Core.List.{List}
use lib.ListN.{length, get_or}
use Rattle.template.specs.Template.{template_says}
use Rattle.counts.specs.Fit.{FitSays}
use Rattle.counts.proofs.Fitting.{fit-one-answer}
use Rattle.script.specs.Script.{script_says, card_links}
use Rattle.typing.specs.Answer.{BothSaid}
use Rattle.typing.specs.Calls.{LargestSays, SmallestSays, Grids, BothSays}
use Rattle.typing.specs.Judge.{JudgeSays}
use Rattle.typing.specs.Tidy.{TidySays}
use Rattle.typing.proofs.Existence.{largest-one-answer, smallest-one-answer, both-one-answer}
use Rattle.typing.proofs.Judging.{judge-one-answer}
use Rattle.typing.proofs.Tidying.{tidy-one-answer}
use Rattle.capi.specs.declared.PrepTemplate.{PrepTemplate}
use Rattle.capi.specs.declared.PrepFit.{PrepFit}
use Rattle.capi.specs.declared.PrepScript.{PrepScript}
use Rattle.capi.specs.declared.PrepLargest.{PrepLargest}
use Rattle.capi.specs.declared.PrepSmallest.{PrepSmallest}
use Rattle.capi.specs.declared.PrepBoth.{PrepBoth}
use Rattle.capi.specs.declared.PrepJudge.{PrepJudge}
use Rattle.capi.specs.declared.PrepWritten.{PrepWritten}
use Rattle.capi.specs.Numbers.{Numbers, said, Tells, TellsBoth, copied, template_numbers, fit_numbers}
use Rattle.capi.specs.Numbers.{script_numbers, largest_numbers, smallest_numbers, large_part, small_part, judge_numbers}
use Rattle.capi.specs.Numbers.{written_numbers}
use Rattle.capi.proofs.Told.{numbers-unique}

-- ---- a struct, from its numbers
abbrev template_of : Numbers → PrepTemplate
template_of n =
    record { number = n.number; kinds = get_or n.found 0 0; shapes = get_or n.found 1 0; place = n.place }

abbrev fit_of : Numbers → PrepFit
fit_of n = record { number = n.number; fits = get_or n.found 0 0; place = n.place }

abbrev script_of : Numbers → PrepScript
script_of n = record { number = n.number; cards = get_or n.found 0 0; links = get_or n.found 1 0; place = n.place }

abbrev largest_of : Numbers → PrepLargest
largest_of n =
    record {
      number = n.number;
      place = n.place;
      rounds = get_or n.found 0 0;
      struck = get_or n.found 1 0;
      bare = get_or n.found 2 0;
    }

abbrev smallest_of : Numbers → PrepSmallest
smallest_of n =
    record {
      number = n.number;
      card = n.card;
      shape = n.shape;
      place = n.place;
      pairs = get_or n.found 0 0;
    }

abbrev both_of : Numbers → Numbers → PrepBoth
both_of large small =
    record {
      number = small.number;
      card = small.card;
      shape = small.shape;
      place = small.place;
      rounds = get_or large.found 0 0;
      struck = get_or large.found 1 0;
      bare = get_or large.found 2 0;
      pairs = get_or small.found 0 0;
    }

abbrev judge_of : Numbers → PrepJudge
judge_of n = record { number = n.number; card = n.card; shape = n.shape; place = n.place }

abbrev written_of : Numbers → PrepWritten
written_of n = record { number = n.number; place = n.place; written = get_or n.found 0 0 }

-- ---- the functions
pub template-no-choice : (words : List ℕ) (a b : PrepTemplate)
    → Tells (λ x. x ≡ template_says words) (template_numbers a)
    → Tells (λ x. x ≡ template_says words) (template_numbers b) → a ≡ b
template-no-choice words a b (x, p) (y, q) =
    ap template_of (numbers-unique (template_numbers a) (template_numbers b) refl (x ∙ sym y) p q)

pub script-no-choice : (template script : List ℕ) (a b : PrepScript)
    → Tells (λ x. x ≡ script_says template script) (script_numbers a)
    → Tells (λ x. x ≡ script_says template script) (script_numbers b) → a ≡ b
script-no-choice template script a b (x, p) (y, q) =
    ap script_of (numbers-unique (script_numbers a) (script_numbers b) refl (x ∙ sym y) p q)

pub fit-no-choice : (template : List ℕ) (shape : ℕ) (counts : List ℕ) (a b : PrepFit)
    → Tells (FitSays template shape counts) (fit_numbers a) → Tells (FitSays template shape counts) (fit_numbers b)
    → a ≡ b
fit-no-choice template shape counts a b (x, p) (y, q) =
    let same = fit-one-answer template shape counts (said (fit_numbers a)) (said (fit_numbers b)) x y in
    ap fit_of (numbers-unique (fit_numbers a) (fit_numbers b) refl same p q)

pub links-no-choice : (template script buffer : List ℕ) (card a b : ℕ) (g h : List ℕ)
    → a ≡ length (card_links template script card) → g ≡ copied (card_links template script card) buffer
    → b ≡ length (card_links template script card) → h ≡ copied (card_links template script card) buffer
    → (a ≡ b) × (g ≡ h)
links-no-choice template script buffer card a b g h x p y q = (x ∙ sym y, p ∙ sym q)

module _ (template script : List ℕ) where
  pub largest-no-choice : (before g h : List ℕ) (a b : PrepLargest)
      → Tells (LargestSays template script before g) (largest_numbers a)
      → Tells (LargestSays template script before h) (largest_numbers b) → (a ≡ b) × (g ≡ h)
  largest-no-choice before g h a b (x, p) (y, q) =
      let (same, grids) = largest-one-answer template script before g h
      (said (largest_numbers a)) (said (largest_numbers b)) x y in
      (ap largest_of (numbers-unique (largest_numbers a) (largest_numbers b) refl same p q), grids)

  pub smallest-no-choice : (bookings : List ℕ) (desk : ℕ) (before g h : List ℕ) (a b : PrepSmallest)
      → Tells (SmallestSays template script bookings desk before g) (smallest_numbers a)
      → Tells (SmallestSays template script bookings desk before h) (smallest_numbers b) → (a ≡ b) × (g ≡ h)
  smallest-no-choice bookings desk before g h a b (x, p) (y, q) =
      let (same, grids) = smallest-one-answer template script bookings desk before g h
      (said (smallest_numbers a)) (said (smallest_numbers b)) x y in
      (ap smallest_of (numbers-unique (smallest_numbers a) (smallest_numbers b) refl same p q), grids)

  pub both-no-choice : (bookings : List ℕ) (desk : ℕ) (before g h : Grids) (a b : PrepBoth)
      → TellsBoth (BothSays template script bookings desk before g) a
      → TellsBoth (BothSays template script bookings desk before h) b → (a ≡ b) × (g ≡ h)
  both-no-choice bookings desk before g h a b (x, p, r) (y, q, s) =
      let (same, grids) = both-one-answer template script bookings desk before g h _ _ x y in
      let large = numbers-unique (large_part a) (large_part b) refl (ap (λ (z : BothSaid). z.largest) same) p q in
      let small = numbers-unique (small_part a) (small_part b) refl (ap (λ (z : BothSaid). z.smallest) same) r s in
      (ap₂ both_of large small, grids)

  pub judge-no-choice : (bookings : List ℕ) (desk : ℕ) (grid : List ℕ) (a b : PrepJudge)
      → Tells (JudgeSays template script bookings desk grid) (judge_numbers a)
      → Tells (JudgeSays template script bookings desk grid) (judge_numbers b) → a ≡ b
  judge-no-choice bookings desk grid a b (x, p) (y, q) =
      let same = judge-one-answer template script bookings desk grid
      (said (judge_numbers a)) (said (judge_numbers b)) x y in
      ap judge_of (numbers-unique (judge_numbers a) (judge_numbers b) refl same p q)

  pub tidy-no-choice : (bookings before g h : List ℕ) (a b : PrepWritten)
      → Tells (TidySays template script bookings before g) (written_numbers a)
      → Tells (TidySays template script bookings before h) (written_numbers b) → (a ≡ b) × (g ≡ h)
  tidy-no-choice bookings before g h a b (x, p) (y, q) =
      let (same, buffers) = tidy-one-answer template script bookings before g h
      (said (written_numbers a)) (said (written_numbers b)) x y in
      (ap written_of (numbers-unique (written_numbers a) (written_numbers b) refl same p q), buffers)

-- The number of a refusal at one place is neither 0 nor one of those with a card and a shape: so the number of an
-- answer tells what the answer says. Each law composes what the readers refuse with.
--   template-plain, fit-plain, script-plain, largest-plain, smallest-plain, both-plain, judge-plain, tidy-plain   of
--   each operation
-- Assumes nothing.
use Prim.Native.Nat.{ℕ, ◌≤◌, ◌<◌}
use mathlib.Core.Path.{◌≡◌, refl, sym, ap, subst}
use mathlib.Core.Logic.{◌⊎◌, ⊎_elim}
use mathlib.Core.List.{List, [], ◌∷◌}
use native.Mathlib.Omega.{arith}
use Rattle.words.specs.Said.{refusal}
use Rattle.words.specs.Reading.{Reading, accepted, turned_down}
use Rattle.words.specs.Answered.{Answered, Unchanged}
use Rattle.words.specs.Writes.{Writes}
use Rattle.words.proofs.Said.{values-refusal}
use Rattle.words.proofs.Answered.{answered-refused}
use Rattle.words.proofs.Readings.{said-turned, Numbered, numbered-turned, numbered-map, then-numbered}
use Rattle.template.specs.Template.{read_template, template_values, template_says}
use Rattle.template.proofs.Numbers.{TemplateNumber, template-numbers}
use Rattle.script.specs.Script.{read_script, read_with, script_values, script_says}
use Rattle.script.proofs.Reading.{ScriptNumber, script-numbers}
use Rattle.sheet.specs.Sheet.{Sheet}
use Rattle.typing.specs.Demand3.{Outcome, pairs, not_met}
use Rattle.typing.specs.Calls.{LargestFound, LargestSays, SmallestFound, SmallestSays, outcome_said}
use Rattle.typing.specs.Calls.{largest_reading, smallest_reading, Grids, both_reading, BothFound, BothSays}
use Rattle.typing.specs.Judge.{JudgeSays}
use Rattle.typing.specs.Tidy.{tidy_reading, TidySays}
use Rattle.typing.proofs.Numbers.{LargestNumber, largest-numbers, SmallestNumber, smallest-numbers, both-numbers}
use Rattle.typing.proofs.Numbers.{JudgeNumber, judge-numbers, TidyNumber, tidy-numbers}
use Rattle.capi.proofs.Told.{Plain, plain-number, low-plain}
use Rattle.counts.specs.Fit.{Question, fit_question, FitFound, FitSays}
use Rattle.counts.proofs.Numbers.{FitNumber, fit-numbers}
use Rattle.bookings.specs.Bookings.{Booked}
use Rattle.stored.specs.Tidied.{tidied}
use Rattle.stored.proofs.StoredLists.{StoredNumber}
use Rattle.bookings.proofs.Reading.{BookingNumber}
use Rattle.typing.specs.Answer.{BothSaid, both_refused}

-- ---- the numbers of the readers are plain
-- over 62
high-plain : (n : ℕ) → 62 < n → Plain n
high-plain n a = plain-number n (λ e. absurd (omega arith)) (λ e. absurd (omega arith)) (λ e. absurd (omega arith))

template-number : (n : ℕ) → TemplateNumber n → Plain n
template-number n h =
    ⊎_elim (λ b. low-plain n b.0 (omega (arith, b.1))) (λ e. subst Plain (sym e) (refl, refl)) h

script-number : (n : ℕ) → ScriptNumber n → Plain n
script-number n h = low-plain n (omega (arith, h.0)) (omega (arith, h.1))

largest-number : (n : ℕ) → LargestNumber n → Plain n
largest-number n h =
    ⊎_elim (λ s. ⊎_elim (template-number n) (script-number n) s)
    (λ (e : n ≡ 40). low-plain n (omega arith) (omega arith)) h

stored-number : (n : ℕ) → StoredNumber n → Plain n
stored-number n h = low-plain n (omega (arith, h.0)) (omega (arith, h.1))

booking-number : (n : ℕ) → BookingNumber n → Plain n
booking-number n h = ⊎_elim (stored-number n) (λ b. high-plain n (omega (arith, b.0))) h

smallest-number : (n : ℕ) → SmallestNumber n → Plain n
smallest-number n h = ⊎_elim (largest-number n) (booking-number n) h

tidy-number : (n : ℕ) → TidyNumber n → Plain n
tidy-number n h = ⊎_elim (largest-number n) (stored-number n) h

-- 61 or 63
grid-plain : (n : ℕ) → (n ≡ 61) ⊎ (n ≡ 63) → Plain n
grid-plain n h = ⊎_elim (λ e. subst Plain (sym e) (refl, refl)) (λ e. subst Plain (sym e) (refl, refl)) h

judge-number : (n : ℕ) → JudgeNumber n → Plain n
judge-number n h = ⊎_elim (smallest-number n) (grid-plain n) h

fit-number : (n : ℕ) → FitNumber n → Plain n
fit-number n h = ⊎_elim (template-number n) (λ b. low-plain n (omega (arith, b.0)) (omega (arith, b.1))) h

-- One refusal of both calls.
abbrev twice : ℕ → ℕ → BothSaid
twice number place = both_refused (refusal number (place ∷ []))

-- ---- of each operation
module _ (number place : ℕ) where
  -- a refusal that a reading is turned down with has its number
  same_number : (n p : ℕ) → refusal number (place ∷ []) ≡ refusal n (p ∷ []) → Plain n → Plain number
  same_number n p e h = let same : n ≡ number = cc in subst Plain same h

  pub template-plain : (words : List ℕ) → refusal number (place ∷ []) ≡ template_says words → Plain number
  unfolding template_says
  template-plain words e =
      template-number number
      (numbered-turned TemplateNumber (read_template words) number place (template-numbers words)
      (said-turned template_values (read_template words) number place e))

  pub script-plain : (template script : List ℕ) → refusal number (place ∷ []) ≡ script_says template script
      → Plain number
  unfolding script_says
  script-plain template script e =
      numbered-turned Plain (read_with template script) number place
      (then-numbered Plain (read_template template) (λ t. read_script t.kinds script)
      (numbered-map TemplateNumber Plain (read_template template) template-number (template-numbers template))
      (λ t. numbered-map ScriptNumber Plain (read_script t.kinds script) script-number
      (script-numbers t.kinds script)))
      (said-turned script_values (read_with template script) number place e)

  fit-by : (r : Reading Question) → Numbered FitNumber r
      → Answered r (λ refused. refusal number (place ∷ []) ≡ refused) (λ q. FitFound q (refusal number (place ∷ [])))
      → Plain number
  fit-by (turned_down n p) h e = same_number n p e (fit-number n h)
  fit-by (accepted q) h e =
      ⊎_elim (λ yes. values-refusal (sym yes.1)) (λ no. values-refusal (sym no.1)) e

  pub fit-plain : (template : List ℕ) (shape : ℕ) (counts : List ℕ)
      → FitSays template shape counts (refusal number (place ∷ [])) → Plain number
  fit-plain template shape counts e =
      fit-by (fit_question template shape counts) (fit-numbers template shape counts) e

  pub largest-plain : (template script before after : List ℕ)
      → LargestSays template script before after (refusal number (place ∷ [])) → Plain number
  largest-plain template script before after e =
      answered-refused LargestNumber (largest_reading template script before) before after number (place ∷ [])
      (largest-numbers template script before) (λ n same. largest-number number n)
      (λ s r (f : LargestFound s after (refusal number (place ∷ []))). values-refusal (sym f.says)) e

  -- 50 has two words for its place
  outcome-none : {A : Type 0} (o : Outcome) → refusal number (place ∷ []) ≡ outcome_said o → A
  outcome-none (pairs m) e = values-refusal (sym e)
  outcome-none (not_met n t) e = let z : ◌≡◌ {A = ℕ} 0 1 = cc in absurd (omega arith)

  pub smallest-plain : (template script bookings : List ℕ) (desk : ℕ) (before after : List ℕ)
      → SmallestSays template script bookings desk before after (refusal number (place ∷ [])) → Plain number
  smallest-plain template script bookings desk before after e =
      answered-refused SmallestNumber (smallest_reading template script bookings desk before) before after number
      (place ∷ []) (smallest-numbers template script bookings desk before) (λ n same. smallest-number number n)
      (λ s r (f : SmallestFound s (Booked bookings desk) after (refusal number (place ∷ []))).
      outcome-none f.outcome f.says) e

  both_by : (r : Reading Sheet) (Wanted : ℕ → ℕ → Type 0) (before after : Grids) → Numbered SmallestNumber r
      → Answered r (λ refused. Unchanged before after (twice number place) (both_refused refused))
      (λ s. BothFound s Wanted after.small after.large (twice number place)) → Plain number
  both_by (turned_down n p) Wanted before after h e =
      same_number n p (ap (λ (x : BothSaid). x.largest) e.0) (smallest-number n h)
  both_by (accepted s) Wanted before after h e = outcome-none e.smallest.outcome e.smallest.says

  pub both-plain : (template script bookings : List ℕ) (desk : ℕ) (before after : Grids)
      → BothSays template script bookings desk before after (twice number place) → Plain number
  both-plain template script bookings desk before after e =
      both_by (both_reading template script bookings desk before) (Booked bookings desk) before after
      (both-numbers template script bookings desk before) e

  pub judge-plain : (template script bookings : List ℕ) (desk : ℕ) (grid : List ℕ)
      → JudgeSays template script bookings desk grid (refusal number (place ∷ [])) → Plain number
  judge-plain template script bookings desk grid e = ⊎_elim
      (judge-number number) (λ two. absurd (omega (arith, two.1)))
      (judge-numbers template script bookings desk grid number (place ∷ []) e)

  pub tidy-plain : (template script bookings before after : List ℕ)
      → TidySays template script bookings before after (refusal number (place ∷ [])) → Plain number
  tidy-plain template script bookings before after e =
      answered-refused TidyNumber (tidy_reading template script bookings before) before after number (place ∷ [])
      (tidy-numbers template script bookings before) (λ n same. tidy-number number n)
      (λ s r (f : Writes (tidied bookings) before after (refusal number (place ∷ []))).
      values-refusal (sym f.says)) e

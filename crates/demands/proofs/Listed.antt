-- A refusal that an operation's contract allows is one of a listed number, and changes no grid but for 50, and no
-- buffer.
--   no-values                                    a refusal is no value
--   said-listed, fit_refused, largest-refused, smallest-refused, both-refused, desks-refused, tidy-refused   from the
--                                                numbers of the readings
--   pairs-or-50                                  an outcome is a number of pairs, or 50
--   script-numbered                              the numbers that a script with its template is refused with
-- Assumes nothing.
use Prim.Native.Nat.{ℕ}
use mathlib.Core.Path.{◌≡◌, refl, sym, ap, ◌∙◌, subst}
use mathlib.Core.Logic.{◌⊎◌, inl, inr}
use mathlib.Core.List.{List, [], ◌∷◌}
use lib.ListN.{length, replicate}
use Rattle.words.specs.Said.{Said, values, refusal}
use Rattle.words.specs.Reading.{Reading, accepted, turned_down, said_of}
use Rattle.words.proofs.Said.{values-refusal, refusal-number}
use Rattle.words.proofs.Readings.{Numbered, then-numbered, numbered-map}
use Rattle.words.specs.Answered.{Answered, Unchanged}
use Rattle.words.specs.Writes.{Writes}
use Rattle.words.proofs.Answered.{answered-refused}
use Rattle.template.specs.Template.{read_template}
use Rattle.template.proofs.Numbers.{TemplateNumber, template-numbers}
use Rattle.script.specs.Script.{read_script, read_with}
use Rattle.script.proofs.Reading.{ScriptNumber, script-numbers}
use Rattle.sheet.specs.Sheet.{Sheet, size}
use Rattle.bookings.specs.Bookings.{Booked}
use Rattle.stored.specs.Tidied.{tidied}
use Rattle.counts.specs.Fit.{Question, FitFound}
use Rattle.typing.specs.Demand3.{Outcome, pairs, not_met}
use Rattle.typing.specs.Answer.{BothSaid, both_refused, DesksSaid, desks_refused}
use Rattle.typing.specs.Calls.{Grids, Leaves, outcome_said, LargestFound, SmallestFound, BothFound}
use Rattle.typing.specs.Desks.{DeskGrids, DesksFound}
use Rattle.demands.specs.Listed.{ScriptListed, Says50}

pub no-values : {B : Type 0} {xs at : List ℕ} {number : ℕ} → refusal number at ≡ values xs → B
no-values e = values-refusal (sym e)

module _ (Number : ℕ → Type 0) where
  -- what a reading says is refused with one of its numbers
  pub said-listed : {A : Type 0} (found : A → List ℕ) (r : Reading A) (number : ℕ) (at : List ℕ)
      → Numbered Number r → said_of found r ≡ refusal number at → Number number
  said-listed found (accepted a) number at h e = no-values (sym e)
  said-listed found (turned_down n p) number at h e = subst Number (refusal-number e) h

  pub largest-refused : (r : Reading Sheet) → Numbered Number r → (before after : List ℕ) (number : ℕ) (at : List ℕ)
      → Answered r (Unchanged before after (refusal number at)) (λ s. LargestFound s after (refusal number at))
      → Number number × (after ≡ before)
  largest-refused r h before after number at x =
      answered-refused Number r before after number at h (λ n e. (n, e))
      (λ s e (f : LargestFound s after (refusal number at)). no-values f.says) x

  pub tidy-refused : (r : Reading Sheet) → Numbered Number r → (bookings before after : List ℕ) (number : ℕ)
      (at : List ℕ)
      → Answered r (Unchanged before after (refusal number at))
      (λ s. Writes (tidied bookings) before after (refusal number at))
      → Number number × (after ≡ before)
  tidy-refused r h bookings before after number at x =
      answered-refused Number r before after number at h (λ n e. (n, e))
      (λ s e (f : Writes (tidied bookings) before after (refusal number at)). no-values f.says) x

  pub fit_refused : (r : Reading Question) → Numbered Number r → (number : ℕ) (at : List ℕ)
      → Answered r (λ refused. refusal number at ≡ refused) (λ q. FitFound q (refusal number at)) → Number number
  fit_refused (accepted q) h number at (inl x) = no-values x.1
  fit_refused (accepted q) h number at (inr x) = no-values x.1
  fit_refused (turned_down n p) h number at x = subst Number (sym (refusal-number x)) h

  -- a refusal of the smallest: a listed one, or 50, which leaves zeros
  abbrev SmallestRefused : ℕ → (List ℕ) → List ℕ → Type 0
  SmallestRefused number before after =
      (Number number × (after ≡ before)) ⊎ ((number ≡ 50) × (after ≡ replicate (length before) 0))

  found-refused : (s : Sheet) (Wanted : ℕ → ℕ → Type 0) (before after : List ℕ) (number : ℕ) (at : List ℕ)
      → length before ≡ size s → (o : Outcome) → refusal number at ≡ outcome_said o → Leaves s Wanted after o
      → (number ≡ 50) × (after ≡ replicate (length before) 0)
  found-refused s Wanted before after number at full (pairs m) e l = no-values e
  found-refused s Wanted before after number at full (not_met n t) e l =
      (refusal-number e, l.zeros ∙ ap (λ (k : ℕ). replicate k 0) (sym full))

  pub smallest-refused : (r : Reading Sheet) → Numbered Number r → (Wanted : ℕ → ℕ → Type 0) (before after : List ℕ)
      → ((s : Sheet) → r ≡ accepted s → length before ≡ size s) → (number : ℕ) (at : List ℕ)
      → Answered r (Unchanged before after (refusal number at)) (λ s. SmallestFound s Wanted after (refusal number at))
      → SmallestRefused number before after
  smallest-refused r h Wanted before after full number at x =
      answered-refused Number r before after number at h (λ n e. inl (n, e))
      (λ s e (f : SmallestFound s Wanted after (refusal number at)).
      inr (found-refused s Wanted before after number at (full s e) f.outcome f.says f.leaves)) x

  pub both-refused : (r : Reading Sheet) → Numbered Number r → (Wanted : ℕ → ℕ → Type 0) (before after : Grids)
      → ((s : Sheet) → r ≡ accepted s → length before.small ≡ size s) → (said : BothSaid)
      → Answered r (λ refused. Unchanged before after said (both_refused refused))
      (λ s. BothFound s Wanted after.small after.large said) → (number : ℕ) (at : List ℕ)
      → ((said.largest ≡ refusal number at) → Number number × (after ≡ before))
      × ((said.smallest ≡ refusal number at) → (Number number × (after ≡ before))
      ⊎ ((number ≡ 50) × (after.small ≡ replicate (length before.small) 0)))
  both-refused (accepted s) h Wanted before after full said x number at = (
    λ e. no-values (sym e ∙ x.largest.says),
    λ e. inr (found-refused s Wanted before.small after.small number at (full s refl) x.smallest.outcome
        (sym e ∙ x.smallest.says) x.smallest.leaves),
  )
  both-refused (turned_down n p) h Wanted before after full said x number at =
      let large : said.largest ≡ refusal n (p ∷ []) = ap (λ (z : BothSaid). z.largest) x.0 in
      let small : said.smallest ≡ refusal n (p ∷ []) = ap (λ (z : BothSaid). z.smallest) x.0 in (
        λ e. (subst Number (refusal-number (sym large ∙ e)) h, x.1),
        λ e. inl (subst Number (refusal-number (sym small ∙ e)) h, x.1),
      )

  pub desks-refused : (r : Reading Sheet) → Numbered Number r → (bookings : List ℕ) (before after : DeskGrids)
      → ((s : Sheet) → r ≡ accepted s
      → (length before.radio ≡ size s) × (length before.television ≡ size s)) → (said : DesksSaid)
      → Answered r (λ refused. Unchanged before after said (desks_refused refused))
      (λ s. DesksFound s bookings after said) → (number : ℕ) (at : List ℕ)
      → ((said.largest ≡ refusal number at) → Number number × (after ≡ before))
      × ((said.radio ≡ refusal number at) → (Number number × (after ≡ before))
      ⊎ ((number ≡ 50) × (after.radio ≡ replicate (length before.radio) 0)))
      × ((said.television ≡ refusal number at) → (Number number × (after ≡ before))
      ⊎ ((number ≡ 50) × (after.television ≡ replicate (length before.television) 0)))
  desks-refused (accepted s) h bookings before after full said x number at =
      let radio = x.radio.smallest in
      let television = x.television.smallest in (
        λ e. no-values (sym e ∙ x.radio.largest.says),
        λ e. inr (found-refused s (Booked bookings 0) before.radio after.radio number at (full s refl).0
            radio.outcome (sym e ∙ radio.says) radio.leaves),
        λ e. inr (found-refused s (Booked bookings 1) before.television after.television number at
            (full s refl).1 television.outcome (sym e ∙ television.says) television.leaves),
      )
  desks-refused (turned_down n p) h bookings before after full said x number at =
      let large : said.largest ≡ refusal n (p ∷ []) = ap (λ (z : DesksSaid). z.largest) x.0 in
      let radio : said.radio ≡ refusal n (p ∷ []) = ap (λ (z : DesksSaid). z.radio) x.0 in
      let television : said.television ≡ refusal n (p ∷ []) = ap (λ (z : DesksSaid). z.television) x.0 in (
        λ e. (subst Number (refusal-number (sym large ∙ e)) h, x.1),
        λ e. inl (subst Number (refusal-number (sym radio ∙ e)) h, x.1),
        λ e. inl (subst Number (refusal-number (sym television ∙ e)) h, x.1),
      )

-- An outcome is a number of pairs, or 50.
pub pairs-or-50 : (said : Said) (o : Outcome) → said ≡ outcome_said o
    → ((m : ℕ) × (said ≡ values (m ∷ []))) ⊎ Says50 said
pairs-or-50 said (pairs m) e = inl (m, e)
pairs-or-50 said (not_met n t) e = inr (n, t, e)

-- A script is refused with a template's number or one of its own.
pub script-numbered : (words list : List ℕ) → Numbered ScriptListed (read_with words list)
script-numbered words list =
    then-numbered ScriptListed (read_template words) (λ t. read_script t.kinds list)
    (numbered-map TemplateNumber ScriptListed (read_template words) (λ n h. inl h) (template-numbers words))
    (λ t. numbered-map ScriptNumber ScriptListed (read_script t.kinds list) (λ n h. inr h)
    (script-numbers t.kinds list))

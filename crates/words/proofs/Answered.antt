-- Laws of the frame of a contract.
--   answered-values    values are said only of what was read
--   answered-part      so it is where a part of what is said are values
--   answered-refused   a refusal is the reading's, with a number of a kind and nothing changed, or of what was read
--   answered-unique    two answers to one reading are equal, and so is what they leave
--   told-unique        the same where nothing is lent
-- Assumes nothing.
use Prim.Native.Nat.{ℕ}
use mathlib.Core.Path.{◌≡◌, refl, sym, ap, subst, ◌∙◌}
use mathlib.Core.List.{List}
use Rattle.words.specs.Said.{Said, values, refusal}
use Rattle.words.specs.Reading.{Reading, accepted, turned_down}
use Rattle.words.specs.Answered.{Answered, Unchanged}
use Rattle.words.proofs.Said.{values-refusal, refusal-number}
use Rattle.words.proofs.Readings.{Numbered}

module _ {A B : Type 0} {Found : A → Type 0} where
  pub answered-values : (r : Reading A) (before after : B) (found : List ℕ)
      → Answered r (Unchanged before after (values found)) Found → (a : A) × (r ≡ accepted a) × Found a
  answered-values (turned_down number place) before after found x = values-refusal x.0
  answered-values (accepted a) before after found x = (a, refl, x)

  -- told: how the refusal is said; part: a part of what is said, in which the refusal is itself
  pub answered-part : {C : Type 0} (told : Said → C) (part : C → Said)
      → ((refused : Said) → part (told refused) ≡ refused)
      → (r : Reading A) (before after : B) (said : C) (found : List ℕ) → part said ≡ values found
      → Answered r (λ refused. Unchanged before after said (told refused)) Found → (a : A) × (r ≡ accepted a) × Found a
  answered-part told part same (turned_down number place) before after said found e x =
      values-refusal (sym e ∙ ap part x.0 ∙ same _)
  answered-part told part same (accepted a) before after said found e x = (a, refl, x)

  pub answered-refused : {R : Type 0} (Number : ℕ → Type 0) (r : Reading A) (before after : B) (number : ℕ)
      (at : List ℕ) → Numbered Number r → (Number number → after ≡ before → R)
      → ((a : A) → r ≡ accepted a → Found a → R) → Answered r (Unchanged before after (refusal number at)) Found → R
  answered-refused Number (turned_down n p) before after number at h f g x =
      f (subst Number (sym (refusal-number x.0)) h) x.1
  answered-refused Number (accepted a) before after number at h f g x = g a refl x

  -- told: how the refusal is said
  pub answered-unique : {C : Type 0} {More : A → Type 0} (told : Said → C) (r : Reading A) (before g h : B) (x y : C)
      → ((a : A) → r ≡ accepted a → Found a → More a → (x ≡ y) × (g ≡ h))
      → Answered r (λ refused. Unchanged before g x (told refused)) Found
      → Answered r (λ refused. Unchanged before h y (told refused)) More → (x ≡ y) × (g ≡ h)
  answered-unique told (turned_down number place) before g h x y f p q = (p.0 ∙ sym q.0, p.1 ∙ sym q.1)
  answered-unique told (accepted a) before g h x y f p q = f a refl p q

pub told-unique : {A : Type 0} {Found More : A → Type 0} (r : Reading A) (x y : Said)
    → ((a : A) → r ≡ accepted a → Found a → More a → x ≡ y)
    → Answered r (λ refused. x ≡ refused) Found → Answered r (λ refused. y ≡ refused) More → x ≡ y
told-unique (turned_down number place) x y f p q = p ∙ sym q
told-unique (accepted a) x y f p q = f a refl p q

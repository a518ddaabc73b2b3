-- One law for all answers: what the numbers of a struct say tells the numbers.
--   Plain            a number that is neither 0 nor one of the refusals with a card and a shape
--   plain-number, low-plain, plain_other   enough that it is none of 0, 50 and 62, or from 1 to 49; it is not 50
--   tells-found, tells-refused, tells-paired   the numbers of values, of a refusal at a place, at a card and a shape
--   equals-refused, both-refused   the numbers of a refusal where one thing is said, and of a refusal of both typings
--   said-by          what holds of what an answer says holds by the case that it is
--   numbers-unique   numbers that say the same, and are 0 where they say nothing, are the same
-- Assumes nothing.
use Prim.Native.Nat.{ℕ, zero, suc, ◌≤◌, ◌<◌}
use native.Mathlib.Omega.{arith}
use mathlib.Core.Path.{◌≡◌, refl, sym, ap, ap₂, subst, ◌∙◌}
use mathlib.Core.Bool.{Bool, true, false, cond}
use mathlib.Core.List.{List, [], ◌∷◌}
use lib.ListN.{length, get_or, replicate}
use lib.Dec.{eqb}
use borrow.Author.Tests.{eqb-true, ne_eqb}
use Rattle.words.specs.Said.{Said, values, refusal}
use Rattle.words.proofs.Bools.{never_both, is_false, or_left}
use Rattle.typing.specs.Answer.{BothSaid}
use Rattle.capi.specs.Numbers.{Numbers, is_paired, said, unsaid, Zeros, Tells, TellsBoth}

-- What holds of what an answer says, by the case that the answer is.
pub said-by : {A S : Type 0} (Allowed : S → Type 0) (saying : A → S) {a b : A} → a ≡ b → Allowed (saying a)
    → Allowed (saying b)
said-by Allowed saying e h = subst (λ x. Allowed (saying x)) e h

-- A number that is neither 0 nor one with a card and a shape.
abbrev pub Plain : ℕ → Type 0
Plain number = (eqb number 0 ≡ false) × (is_paired number ≡ false)

pub plain-number : (number : ℕ) → (number ≡ 0 → ⊥) → (number ≡ 50 → ⊥) → (number ≡ 62 → ⊥) → Plain number
plain-number number some unmet failing =
    (ne_eqb number 0 some, rw (ne_eqb number 50 unmet, ne_eqb number 62 failing) refl)

-- from 1 to 49
pub low-plain : (n : ℕ) → 1 ≤ n → n < 50 → Plain n
low-plain n a b = plain-number n (λ e. absurd (omega arith)) (λ e. absurd (omega arith)) (λ e. absurd (omega arith))

plain_other : (number : ℕ) → Plain number → eqb number 50 ≡ false
plain_other number plain = is_false (λ e. never_both (or_left (eqb number 50) _ e) plain.1)

-- The numbers of values, and of a refusal at one place.
abbrev valued : List ℕ → Numbers
valued found = record { number = 0; place = 0; card = 0; shape = 0; found = found }

abbrev placed : ℕ → ℕ → List ℕ → Numbers
placed number place found = record { number = number; place = place; card = 0; shape = 0; found = found }

-- What the numbers of a plain refusal say, and that the others are 0.
module _ (number place : ℕ) (found : List ℕ) (plain : Plain number) where
  plain-said : said (placed number place found) ≡ refusal number (place ∷ [])
  plain-said = rw (plain.0, plain.1) refl

  plain-unsaid : Zeros found → Zeros (unsaid (placed number place found))
  plain-unsaid zeros = rw (plain.0, plain.1) (refl, (refl, zeros))

-- So many zeros.
no-values : (size : ℕ) → Zeros (replicate size 0)
no-values zero = tt
no-values (suc size) = (refl, no-values size)

module _ (Allowed : Said → Type 0) where
  pub tells-found : (found : List ℕ) → Allowed (values found) → Tells Allowed (valued found)
  tells-found found h = (h, (refl, (refl, (refl, tt))))

  pub tells-refused : (size number place : ℕ) → Plain number → Allowed (refusal number (place ∷ []))
      → Tells Allowed (placed number place (replicate size 0))
  tells-refused size number place plain h = (
    subst Allowed (sym (plain-said number place (replicate size 0) plain)) h,
    plain-unsaid number place (replicate size 0) plain (no-values size),
  )

  pub tells-paired : (size number card shape : ℕ) → eqb number 0 ≡ false → is_paired number ≡ true
      → Allowed (refusal number (card ∷ shape ∷ []))
      → Tells Allowed (record { number = number; place = 0; card = card; shape = shape; found = replicate size 0 })
  tells-paired size number card shape some two h = rw (some, two) (h, (refl, no-values size))

-- The same of an operation that says one thing.
pub equals-refused : (says : Said) (size number place : ℕ) → Plain number → refusal number (place ∷ []) ≡ says
    → Tells (λ x. x ≡ says) (placed number place (replicate size 0))
equals-refused says = tells-refused (λ x. x ≡ says)

-- Zeros are the list of as many zeros.
zeros-list : (xs : List ℕ) → Zeros xs → replicate (length xs) 0 ≡ xs
zeros-list [] z = refl
zeros-list (x ∷ xs) (z, zs) =
    ap (λ (y : ℕ). y ∷ replicate (length xs) 0) (sym z) ∙ ap (λ (ys : List ℕ). x ∷ ys) (zeros-list xs zs)

-- The numbers, so many of them values, that say something.
abbrev numbers_of : ℕ → Said → Numbers
numbers_of size (values found) = valued found
numbers_of size (refusal number place) =
    record {
      number = number;
      place = cond (is_paired number) 0 (get_or place 0 0);
      card = cond (is_paired number) (get_or place 0 0) 0;
      shape = cond (is_paired number) (get_or place 1 0) 0;
      found = replicate size 0;
    }

again_by :
    (number place card shape : ℕ) (found : List ℕ) (b c : Bool) → eqb number 0 ≡ b → is_paired number ≡ c →
    Zeros
    (cond b (place ∷ card ∷ shape ∷ []) (cond c (place ∷ found) (card ∷ shape ∷ found))) →
    numbers_of (length found)
    (cond b (values found) (refusal number (cond c (card ∷ shape ∷ []) (place ∷ []))))
    ≡ record { number = number; place = place; card = card; shape = shape; found = found }
again_by number place card shape found true c t u z = rw (eqb-true number 0 t, z.0, z.1.0, z.1.1.0)
again_by number place card shape found false true t u z = rw (u, z.0, zeros-list found z.1)
again_by number place card shape found false false t u z =
    rw (u, z.0, z.1.0, zeros-list found z.1.1)

numbers-again : (a : Numbers) → Zeros (unsaid a) → numbers_of (length a.found) (said a) ≡ a
numbers-again a z =
    again_by a.number a.place a.card a.shape a.found (eqb a.number 0) (is_paired a.number)
    refl refl z

pub numbers-unique : (a b : Numbers) → length a.found ≡ length b.found → said a ≡ said b → Zeros (unsaid a)
    → Zeros (unsaid b) → a ≡ b
numbers-unique a b size e h k =
    sym (numbers-again a h) ∙ ap (λ (n : ℕ). numbers_of n (said a)) size
    ∙ ap (λ (s : Said). numbers_of (length b.found) s) e ∙ numbers-again b k

-- The struct of both typings, of a refusal of both.
module _ (Allowed : BothSaid → Type 0) where
  pub both-refused : (number place : ℕ) → Plain number
      → Allowed (record { largest = refusal number (place ∷ []); smallest = refusal number (place ∷ []) })
      → TellsBoth Allowed (record {
        number = number;
        card = 0;
        shape = 0;
        place = place;
        rounds = 0;
        struck = 0;
        bare = 0;
        pairs = 0;
      })
  both-refused number place plain h = (
    subst Allowed (sym (ap₂ (λ (x y : Said). record { largest = x; smallest = y }) large small)) h,
    subst (λ (n : ℕ). Zeros (unsaid (placed n place (0 ∷ 0 ∷ 0 ∷ [])))) (sym same)
        (plain-unsaid number place (0 ∷ 0 ∷ 0 ∷ []) plain (refl, (refl, (refl, tt)))),
    plain-unsaid number place (0 ∷ []) plain (refl, tt),
  )
    where
      same : cond (eqb number 50) 0 number ≡ number
      same = ap (λ (b : Bool). cond b 0 number) (plain_other number plain)

      large : said (placed (cond (eqb number 50) 0 number) place (0 ∷ 0 ∷ 0 ∷ [])) ≡ refusal number (place ∷ [])
      large = ap (λ (n : ℕ). said (placed n place (0 ∷ 0 ∷ 0 ∷ []))) same
          ∙ plain-said number place (0 ∷ 0 ∷ 0 ∷ []) plain

      small : said (placed number place (0 ∷ [])) ≡ refusal number (place ∷ [])
      small = plain-said number place (0 ∷ []) plain

-- Laws of readings.
--   accepted-turned       what is accepted is not turned down
--   accepted-same         what is accepted is one thing
--   refused, passed       a refusal whose test passes; what is accepted has passed its test
--   refuse-case           what holds of both ways of a test holds of what it refuses
--   then-accepted         what is accepted in the end was accepted at each step
--   said-accepted, said-turned   a reading, from what it says
--   Numbered              a reading is accepted, or its refusal has a number of a kind
--   numbered-turned, refuse-numbered, then-numbered, mapped-numbered, numbered-map   step by step
-- Assumes nothing.
use Prim.Native.Nat.{ℕ}
use mathlib.Core.Path.{◌≡◌, refl, sym, subst}
use mathlib.Core.Bool.{Bool, true, false}
use mathlib.Core.List.{List, [], ◌∷◌}
use native.Mathlib.Omega.{arith}
use Rattle.words.specs.Said.{values, refusal}
use Rattle.words.specs.Reading.{Reading, accepted, turned_down, refuse, then, mapped, said_of}

pub accepted-turned : {A B : Type 0} {a : A} {number place : ℕ} → accepted a ≡ turned_down number place → B
accepted-turned e = let z : ◌≡◌ {A = ℕ} 0 1 = cc in absurd (omega arith)

pub accepted-same : {A : Type 0} {a b : A} → accepted a ≡ accepted b → a ≡ b
accepted-same e = cc

-- One test of a decision list.
module _ {A : Type 0} (number place : ℕ) where
  pub refused : (test : Bool) (rest : Reading A) → test ≡ true → refuse number place test rest ≡ turned_down number
      place
  refused test rest e = rw e refl

  pub passed : (test : Bool) (rest : Reading A) (a : A) → refuse number place test rest ≡ accepted a
      → (test ≡ false) × (rest ≡ accepted a)
  passed true rest a e = accepted-turned (sym e)
  passed false rest a e = (refl, e)

  pub refuse-case : (P : Reading A → Type 0) (test : Bool) (rest : Reading A)
      → (test ≡ true → P (turned_down number place)) → (test ≡ false → P rest) → P (refuse number place test rest)
  refuse-case P true rest f g = f refl
  refuse-case P false rest f g = g refl

pub then-accepted : {A B : Type 0} (r : Reading A) (rest : A → Reading B) (b : B) → then r rest ≡ accepted b
    → (a : A) × (r ≡ accepted a) × (rest a ≡ accepted b)
then-accepted (accepted a) rest b e = (a, refl, e)
then-accepted (turned_down number place) rest b e = accepted-turned (sym e)

-- A reading, from what it says.
pub said-accepted : {A : Type 0} (found : A → List ℕ) (r : Reading A) (xs : List ℕ) → values xs ≡ said_of found r
    → (a : A) × (r ≡ accepted a) × (xs ≡ found a)
said-accepted found (accepted a) xs e = (a, refl, cc)
said-accepted found (turned_down number place) xs e = let z : ◌≡◌ {A = ℕ} 0 1 = cc in absurd (omega arith)

pub said-turned : {A : Type 0} (found : A → List ℕ) (r : Reading A) (number place : ℕ)
    → refusal number (place ∷ []) ≡ said_of found r → r ≡ turned_down number place
said-turned found (accepted a) number place e = let z : ◌≡◌ {A = ℕ} 0 1 = cc in absurd (omega arith)
said-turned found (turned_down n p) number place e =
    let i : n ≡ number = cc in
    let j : p ≡ place = cc in
    rw (i, j) refl

-- Which numbers a reading refuses with.
abbrev pub Numbered : {A : Type 0} → (ℕ → Type 0) → Reading A → Type 0
Numbered Number (accepted a) = Unit {0}
Numbered Number (turned_down number place) = Number number

module _ (Number : ℕ → Type 0) where
  pub numbered-turned : {A : Type 0} (r : Reading A) (number place : ℕ) → Numbered Number r
      → r ≡ turned_down number place → Number number
  numbered-turned r number place h e = subst (Numbered Number) e h

  pub refuse-numbered : {A : Type 0} (number place : ℕ) (test : Bool) (rest : Reading A) → Number number
      → Numbered Number rest → Numbered Number (refuse number place test rest)
  refuse-numbered number place true rest n h = n
  refuse-numbered number place false rest n h = h

  pub then-numbered : {A B : Type 0} (r : Reading A) (rest : A → Reading B) → Numbered Number r
      → ((a : A) → Numbered Number (rest a)) → Numbered Number (then r rest)
  then-numbered (accepted a) rest h k = k a
  then-numbered (turned_down number place) rest h k = h

  pub mapped-numbered : {A B : Type 0} (f : A → B) (r : Reading A) → Numbered Number r → Numbered Number (mapped f r)
  mapped-numbered f (accepted a) h = h
  mapped-numbered f (turned_down number place) h = h

  pub numbered-map : {A : Type 0} (Other : ℕ → Type 0) (r : Reading A) → ((n : ℕ) → Number n → Other n)
      → Numbered Number r → Numbered Other r
  numbered-map Other (accepted a) f h = h
  numbered-map Other (turned_down number place) f h = f number h

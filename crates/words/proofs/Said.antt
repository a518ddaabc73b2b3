-- What is said tells itself apart.
--   values-refusal   values are no refusal
--   one_value        a value that is said alone is one number
--   refusal-number, refusal-place   a refusal has one number and one place
-- Assumes nothing.
use mathlib.Core.Path.{◌≡◌}
use mathlib.Core.List.{List, [], ◌∷◌}
use Prim.Native.Nat.{ℕ}
use native.Mathlib.Omega.{arith}
use Rattle.words.specs.Said.{values, refusal}

pub values-refusal : {A : Type 0} {xs places : List ℕ} {number : ℕ} → values xs ≡ refusal number places → A
values-refusal e = let z : ◌≡◌ {A = ℕ} 0 1 = cc in absurd (omega arith)

pub one_value : {m k : ℕ} → values (m ∷ []) ≡ values (k ∷ []) → m ≡ k
one_value e = cc

pub refusal-number : {n m : ℕ} {at to : List ℕ} → refusal n at ≡ refusal m to → n ≡ m
refusal-number e = cc

pub refusal-place : {n m : ℕ} {at to : List ℕ} → refusal n at ≡ refusal m to → at ≡ to
refusal-place e = cc

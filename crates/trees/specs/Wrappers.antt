-- The wrappers that a part starts with, stars, pluses and optionals, and the core that they are around; no part of a
-- promise.
-- WrapperTold  whether a code is a wrapper's
-- EndOf        where so many words from a place on end, or all of them do
-- WrapAsked    the words from a place up to the core's are codes of wrappers
-- CoreAt       so they are, and the core does not start past the part's end
-- Effect       what wrappers make of the core's interval
-- FrontOf      the wrappers from a place on, so many at most
-- Assumes nothing.
use Rattle.std.specs.Prelude.{ℕ, ◌+◌, ◌-◌, ◌≤◌, ◌<◌, ◌≡◌, Bool, true, false, List, length, get_or}
use Rattle.bags.specs.Interval.{interval, wrap_interval}
use Rattle.trees.specs.Trees.{tree_at}
use Rattle.trees.specs.declared.Front.{Front}

-- Whether a code is that of a star, a plus or an optional.
pub record WrapperTold (code : ℕ) (r : Bool) : Type 0 where
  pub yes : r ≡ true → (1 ≤ code) × (code ≤ 3)
  pub no : r ≡ false → 1 ≤ code → 4 ≤ code

-- Where so many words from `start` on end, of so many in all.
pub record EndOf (all start most r : ℕ) : Type 0 where
  pub low : start ≤ r
  pub high : r ≤ start + most
  pub inside : start < r → r ≤ all
  pub far : r < start + most → all ≤ r

-- Codes of wrappers, 1 to 3, stand from `start` on up to `core`.
pub record WrapAsked (words : List ℕ) (start core : ℕ) : Type 0 where
  pub order : start ≤ core
  pub inside : core ≤ length words
  pub codes : (k : ℕ) → start ≤ k → k < core → (1 ≤ get_or words k 0) × (get_or words k 0 ≤ 3)

-- The same, where the part ends at `end`.
pub record CoreAt (words : List ℕ) (start end core : ℕ) : Type 0 where
  pub wrap : WrapAsked words start core
  pub within : core ≤ end

-- The part at `start` ends with its core, and has the core's interval, lowered and freed.
pub record Effect (words : List ℕ) (start core : ℕ) (lowers frees : Bool) : Type 0 where
  pub next : (left : ℕ) → (tree_at (left + (core - start)) words start).next ≡ (tree_at left words core).next
  pub span : (left : ℕ) (w : ℕ → ℕ) →
      interval (tree_at (left + (core - start)) words start).value w
      ≡ wrap_interval lowers frees (interval (tree_at left words core).value w)

-- The wrappers from `start` on, so many at most: there are no more, or none may follow.
pub record FrontOf (words : List ℕ) (start most : ℕ) (front : Front) : Type 0 where
  pub order : start ≤ front.core
  pub few : front.core ≤ start + most
  pub codes : (k : ℕ) → start ≤ k → k < front.core
      → (k < length words) × (1 ≤ get_or words k 0) × (get_or words k 0 ≤ 3)
  pub ends : front.core < start + most → front.core < length words →
      1 ≤ get_or words front.core 0 → 4 ≤ get_or words front.core 0
  pub effect : Effect words start front.core front.lowers front.frees

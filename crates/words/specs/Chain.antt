-- Chains of numbers by a key, built in one pass with no sorting: of links by the cards that they lead to, of bookings
-- by their cards; no part of a promise.
-- last_at    one more than the last number below k with a key, or 0
-- Falling    a chain goes down from each of its numbers
-- Stepped    what taking a chain's next number leaves
-- Blank     what a chain is built in
-- Chained   `first` has that for each key over all numbers, and `next` for each number's key over the numbers below it
-- Assumes nothing.
use Rattle.std.specs.Prelude.{cond, ℕ, zero, suc, ◌+◌, ◌≤◌, ◌<◌, ◌≡◌, List, length, get_or, eqb}

unfoldable pub last_at : (ℕ → ℕ) → ℕ → ℕ → ℕ
last_at key m zero = 0
last_at key m (suc k) = cond (eqb (key k) m) (suc k) (last_at key m k)

pub record Chained (key : ℕ → ℕ) (first next : List ℕ) (k : ℕ) : Type 0 where
  pub heads : (m : ℕ) → m < length first → get_or first m 0 ≡ last_at key m k
  pub nexts : (i : ℕ) → i < k → get_or next i 0 ≡ last_at key (key i) i

-- What a chain of so many numbers is built in: heads that are all 0, and room for the numbers.
pub record Blank (first next : List ℕ) (numbers : ℕ) : Type 0 where
  pub zeros : (m : ℕ) → m < length first → get_or first m 0 ≡ 0
  pub room : numbers ≤ length next

-- The chain stands before the number at - 1, or at its end if `at` is 0, and from each number below `at` it goes down.
pub record Falling (at : ℕ) (next : List ℕ) : Type 0 where
  pub inside : at ≤ length next
  pub lower : (i : ℕ) → i < at → get_or next i 0 ≤ i

-- Taking the number i, before which a chain stood, leaves it before the one that i leads to.
pub record Stepped (at : ℕ) (next : List ℕ) (i later : ℕ) (left : List ℕ) : Type 0 where
  pub stood : at ≡ i + 1
  pub leads : later ≡ get_or next i 0
  pub same : left ≡ next

-- `bookings::list_count` looks at a list's count and length: a law of proofs/Reading for each refusal.
-- Assumes nothing.
use Prim.Native.Nat.{ℕ, ◌*◌, ◌≤◌}
use mathlib.Core.Path.{◌≡◌, ap}
use native.Mathlib.Omega.{arith}
use lib.ListN.{get_or}
use Rattle.words.specs.Limits.{max_bookings}
use Rattle.bookings.proofs.Reading.{list-empty, list-many, list-other}
use Rattle.bookings.proofs.Accepted.{words-few}
use Rattle.bookings.proofs.list_count.Goals as goal
use Rattle.bookings.proofs.list_count.Goals.{After-from-2}

-- the words of its bookings, and that they are not too many
words : (c : After-from-2) → let a = c.args in
    a.width * c.from-2.result ≡ a.width * get_or a.bookings.now 0 0
words c = ap (λ (n : ℕ). c.args.width * n) c.from-2.ensures

few : (c : After-from-2) → c.args.width * c.from-2.result ≤ 3 * max_bookings
few c = words-few c.requires (omega arith)

pub returns-then-bookings-eq0 : goal.returns-then-bookings-eq0
returns-then-bookings-eq0 c = λ rule. list-empty _ rule _ (omega arith)

pub returns-then-from-gt-MAX_BOOKINGS : goal.returns-then-from-gt-MAX_BOOKINGS
returns-then-from-gt-MAX_BOOKINGS c = λ rule. list-many _ rule _ (λ e. absurd (omega arith)) (omega arith)

pub returns-then-bookings-width : goal.returns-then-bookings-width
returns-then-bookings-width c =
    λ rule. list-other _ rule _ (λ e. absurd (omega arith)) (omega arith)
    (λ e. absurd (omega (arith, e, words (goal.at.returns-then-bookings-width c).After-from-2)))
